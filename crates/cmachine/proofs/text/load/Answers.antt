-- `load` is right because it asks the load of the words, and a refused block leaves the reader and the words.
use Rattle.std.proofs.Common.{◌≡◌, Ok, Err, rules}
use Rattle.bench.specs.declared.Answer.{Answer}
use Rattle.cmachine.specs.laws.Texts.{line_loads}
use Rattle.cmachine.proofs.text.load.Goals as goal

pub returns-in-Ok-Done-clause-value : goal.returns-in-Ok-Done-clause-value
returns-in-Ok-Done-clause-value c =
    let told : c.load_sound-answer.result ≡ Ok Answer.Done = search rules in
    (line_loads c.args.words.now c.args.before c.args.after c.args.b c.load_sound-answer.ensures.value
    c.load_sound-answer.ensures.words_after told).0

pub returns-in-Ok-Done-clause-words_after : goal.returns-in-Ok-Done-clause-words_after
returns-in-Ok-Done-clause-words_after c =
    let told : c.load_sound-answer.result ≡ Ok Answer.Done = search rules in
    (line_loads c.args.words.now c.args.before c.args.after c.args.b c.load_sound-answer.ensures.value
    c.load_sound-answer.ensures.words_after told).1

pub returns-in-Ok-Width-clause-value : goal.returns-in-Ok-Width-clause-value
returns-in-Ok-Width-clause-value c =
    let told : c.load_sound-answer.result ≡ Ok (Answer.Width c.in-Ok-Width.bits) = search rules in
    (line_loads c.args.words.now c.args.before c.args.after c.args.b c.load_sound-answer.ensures.value
    c.load_sound-answer.ensures.words_after told).0

pub returns-in-Ok-Width-clause-words_after : goal.returns-in-Ok-Width-clause-words_after
returns-in-Ok-Width-clause-words_after c =
    let told : c.load_sound-answer.result ≡ Ok (Answer.Width c.in-Ok-Width.bits) = search rules in
    (line_loads c.args.words.now c.args.before c.args.after c.args.b c.load_sound-answer.ensures.value
    c.load_sound-answer.ensures.words_after told).1

pub returns-in-Err-clause-value : goal.returns-in-Err-clause-value
returns-in-Err-clause-value c =
    let told : c.load_sound-answer.result ≡ Err c.in-Err.no = search rules in
    rw c.number.ensures ((line_loads c.args.words.now c.args.before c.args.after c.args.b c.load_sound-answer.ensures.value
    c.load_sound-answer.ensures.words_after told).0)

pub returns-in-Err-clause-words_after : goal.returns-in-Err-clause-words_after
returns-in-Err-clause-words_after c =
    let told : c.load_sound-answer.result ≡ Err c.in-Err.no = search rules in
    (line_loads c.args.words.now c.args.before c.args.after c.args.b c.load_sound-answer.ensures.value
    c.load_sound-answer.ensures.words_after told).1
