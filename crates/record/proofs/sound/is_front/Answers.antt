-- `is_front` is right because it asks each part, and the figures behind them.
use Rattle.std.proofs.Common.{rules, ◌≡◌, sym, ap, ◌∙◌, false, get_or, pos, w64, SFits, to_z-of_z}
use Rattle.encoding.specs.computed.Right.{words_right}
use Rattle.record.specs.computed.Words.{figures_in}
use Rattle.record.specs.computed.Right.{figures_right, front_right}
use Rattle.record.specs.laws.Right.{FrontFits, front_same, front_parts}
use Rattle.record.proofs.sound.is_front.Goals as goal

pub returns-then-words_right : goal.returns-then-words_right
unfolding words_right
returns-then-words_right c =
    let ws = c.args.words.now in
    let f : SFits w64 (get_or ws 0 (pos 0)) = search rules in
    let yes = sym (simp to_z-of_z at c.words_right.ensures) ∙ c.if-words_right.true in
    let own : FrontFits ws = record {
      p = search rules;
      w = search rules;
      remainder = search rules;
      work = record { c = search rules; e = search rules; f = search rules; g = search rules };
      root = search rules;
      left = search rules;
      len = search rules;
    } in
    let e : figures_right (figures_in ws) ≡ front_right ws =
    rw (rw (c.head_in.ensures, c.work_words_in.ensures) at yes) at (front_parts ws) in
    c.figures_right.ensures ∙ ap figures_right c.figures_in-figures.ensures ∙ e ∙ front_same ws own

pub returns-else-words_right : goal.returns-else-words_right
unfolding words_right
returns-else-words_right c =
    let ws = c.args.words.now in
    let f : SFits w64 (get_or ws 0 (pos 0)) = search rules in
    let no = sym (simp to_z-of_z at c.words_right.ensures) ∙ c.if-words_right.false in
    let own : FrontFits ws = record {
      p = search rules;
      w = search rules;
      remainder = search rules;
      work = record { c = search rules; e = search rules; f = search rules; g = search rules };
      root = search rules;
      left = search rules;
      len = search rules;
    } in
    let e : false ≡ front_right ws = rw (rw (c.head_in.ensures, c.work_words_in.ensures) at no) at (front_parts ws) in
    c.if-words_right.false ∙ e ∙ front_same ws own
