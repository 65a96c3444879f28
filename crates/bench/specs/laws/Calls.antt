-- A call's answer by what the questions answer; a tick of a record that is sound, not held and not idle.
use Rattle.std.specs.Prelude.{◌≡◌, refl, true, false, ℕ, Result, Ok, Err, ⊤}
use Rattle.std.proofs.Common.{sym, ◌∙◌}
use Rattle.question.specs.declared.Question.{Question}
use Rattle.question.specs.laws.Ask.{passed}
use Rattle.block.specs.declared.Block.{Block}
use Rattle.work.specs.declared.Advance.{Advance}
use Rattle.work.specs.Work.{is_nothing}
use Rattle.work.specs.computed.Work.{advance_of}
use Rattle.settings.specs.declared.Settings.{Settings}
use Rattle.settings.specs.Settings.{capacity_of, standard_settings}
use Rattle.settings.specs.computed.Settings.{settings_no, ask_settings}
use Rattle.bench.specs.declared.Bench.{Bench}
use Rattle.bench.specs.declared.Answer.{Answer}
use Rattle.bench.specs.computed.Bench.{sound_of}
use Rattle.bench.specs.Bench.{fresh_of}
use Rattle.bench.specs.computed.Calls.{answers, make_with, make_of, load_with, working, tick_of}

pub make_refused : (s : Settings) {q : Question} → Err q ≡ ask_settings s → answers (Err q) (fresh_of standard_settings) ≡ make_of s
unfolding make_of
make_refused s e = rw (← e) refl

pub make_done : (s : Settings) {n : ℕ} → n ≡ settings_no s → n ≡ 0 → answers (Ok Answer.Done) (fresh_of s) ≡ make_of s
unfolding make_of
make_done s e none = rw (passed (ask_settings s) (sym e ∙ none)) refl

pub load_refused : (m : Bench) (b : Block) (r : Result ⊤ Question) {q : Question} → r ≡ Err q → answers (Err q) m ≡ load_with m b r
load_refused m b r e = rw e refl

-- a working tick
pub tick_works : (m : Bench) → sound_of m ≡ true → m.held ≡ false → is_nothing m.work ≡ false
    → {a : Advance} → a ≡ advance_of (capacity_of m.settings) m.at m.remainder m.work → working m a ≡ tick_of m
unfolding tick_of
tick_works m sound free busy advance = rw (sound, free, busy, advance)
