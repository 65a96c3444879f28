-- `is_record` is right because its tests pass exactly where the words are those of the machine that they tell.
use Rattle.std.proofs.Common.{rules, ◌≡◌, subst, ◌∙◌, get_or, pos, w64, SFits, to_z-of_z}
use Rattle.encoding.specs.declared.encode.Head.{Head}
use Rattle.encoding.specs.computed.Right.{words_right}
use Rattle.encoding.specs.laws.Right.{WorkFits, right_same}
use Rattle.encoding.proofs.decode.is_record.Goals as goal

-- what the tests say of the words
right_is : (c : goal.After-words_right) → c.words_right.result ≡ words_right c.args.words.now
unfolding words_right
right_is c =
    let f : SFits w64 (get_or c.args.words.now 0 (pos 0)) = search rules in
    (simp to_z-of_z at c.words_right.ensures) ∙ rw (c.head_in.ensures, c.work_words_in.ensures)

-- the numbers of 64 bits that they ask are those that the two parts hold
pub returns : goal.returns
returns c =
    let h = c.head_in in
    let n = c.work_words_in in
    let p : SFits w64 h.result.p = search rules in
    let w : SFits w64 h.result.w = search rules in
    let r : SFits w64 h.result.remainder = search rules in
    let k : SFits w64 n.result.c = search rules in
    let l : SFits w64 n.result.e = search rules in
    let m : SFits w64 n.result.f = search rules in
    let o : SFits w64 n.result.g = search rules in
    right_is c
    ∙ right_same c.args.words.now (search rules)
    (record {
      p = subst (λ (g : Head). SFits w64 g.p) h.ensures p;
      w = subst (λ (g : Head). SFits w64 g.w) h.ensures w;
      remainder = subst (λ (g : Head). SFits w64 g.remainder) h.ensures r;
      work = subst WorkFits n.ensures (record { c = k; e = l; f = m; g = o });
    })
