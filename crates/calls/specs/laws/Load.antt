-- What a load on the words of a sound record asks, and what it leaves.
use Rattle.std.specs.Prelude.{◌≡◌, true, List, ℕ, ◌≤◌, ltb, ℤ, Result, Ok, Err, ⊤}
use Rattle.std.proofs.Math.Path.{refl, sym, ap}
use Rattle.std.proofs.Common.{◌∙◌}
use Rattle.question.specs.Question.{number_told}
use Rattle.question.specs.declared.Question.{Question}
use Rattle.whole.specs.laws.Test.{both}
use Rattle.plane.specs.declared.point.Point.{Point}
use Rattle.plane.specs.Travel.{inside_of}
use Rattle.plane.specs.computed.Travel.{Wide}
use Rattle.block.specs.declared.Block.{Block}
use Rattle.block.specs.Questions.{ask_load}
use Rattle.work.specs.declared.Work.{Work}
use Rattle.work.specs.Work.{begun_of}
use Rattle.settings.specs.Settings.{capacity_of}
use Rattle.settings.specs.computed.Settings.{settings_no}
use Rattle.bench.specs.declared.Bench.{Bench}
use Rattle.bench.specs.declared.Answer.{Answer}
use Rattle.bench.specs.laws.Sound.{sound as bench_parts}
use Rattle.machine.specs.declared.Machine.{Machine}
use Rattle.machine.specs.declared.Answered.{Answered}
use Rattle.machine.specs.Machine.{start_of}
use Rattle.machine.specs.computed.Calls.{load_with, load_of}
use Rattle.machine.specs.laws.Right.{Sound, sound}
use Rattle.machine.specs.laws.Onward.{wide}
use Rattle.machine.specs.laws.Load.{start_inside}
use Rattle.machine.specs.laws.Calls.{load_refused}
use Rattle.record.specs.Words.{encode_of, over}
use Rattle.record.specs.computed.Words.{queue_in, len_in, machine_in, is_record, sound_words}
use Rattle.record.specs.computed.Write.{Loading}
use Rattle.record.specs.laws.Record.{record_words}
use Rattle.record.specs.laws.Write.{told_sound}
use Rattle.calls.specs.computed.Asked.{Asking}
use Rattle.calls.specs.laws.Told.{bench_sound}

module _ (ws : List ℤ) (t : sound_words ws ≡ true) where
  -- words that a call leaves as they are
  pub own_words : over (encode_of (machine_in ws)) ws ≡ ws
  unfolding sound_words
  own_words = record_words ws (both {a = is_record ws} t).0

  pub sixteen_most : len_in ws ≤ 16
  unfolding machine_in
  sixteen_most = (sound (machine_in ws) (told_sound ws t)).right.queue.most

module _ {ws : List ℤ} {k : Bench} {start : Point} (g : Asking ws k start) where
  abbrev m : Machine
  m = machine_in ws

  parts : Sound m
  parts = sound m (told_sound ws g.sound)

  pub settings_pass : settings_no k.settings ≡ 0
  settings_pass = (bench_parts (bench_sound ws g.sound g.bench_is)).settings

  pub asks : Wide k.settings.travel × (inside_of k.settings.travel start ≡ true)
  unfolding machine_in
  asks = (wide k (bench_sound ws g.sound g.bench_is), rw (g.start_is, g.bench_is) (start_inside m parts))

  start_own : start ≡ start_of m.bench m.queue
  unfolding machine_in
  start_own = g.start_is ∙ ap (λ (k : Bench). start_of k (queue_in ws (len_in ws))) g.bench_is

  -- ---- the questions

  module _ (b : Block) {q0 len : ℕ} {asked : Result ⊤ Question} (q0_is : q0 ≡ capacity_of k.settings) (len_is : len ≡ len_in ws)
      (asked_is : asked ≡ ask_load q0 k.settings.travel (ltb len 16) start b) where
    answer_is : asked ≡ ask_load (capacity_of m.bench.settings) m.bench.settings.travel (ltb m.queue.len 16) start b
    unfolding machine_in
    answer_is = rw (q0_is, len_is, g.bench_is) at asked_is

    loads : load_with m b asked ≡ load_of m b
    unfolding load_of
    loads = rw (told_sound ws g.sound, ← start_own, ← answer_is) refl

    -- what a load answers, and the words after it
    abbrev Loads : Result Answer Question → (after : List ℤ) → Type 0
    Loads answer after = (answer ≡ (load_of m b).answer) × (after ≡ over (encode_of (load_of m b).machine) ws)

    pub load_refuses : {q : Question} → asked ≡ Err q → Loads (Err q) ws
    load_refuses refused =
        let is = load_refused m b asked refused ∙ loads in
        (ap (λ (a : Answered). a.answer) is, sym (own_words ws g.sound) ∙ ap (λ (a : Answered). over (encode_of a.machine) ws) is)

    pub load_takes : asked ≡ Ok tt → {w : Work} → w ≡ k.work → Loading ws w start b
    unfolding machine_in
    load_takes none w_is =
        record {
          sound = g.sound;
          work = w_is ∙ ap (λ (k : Bench). k.work) g.bench_is;
          taking = record { sound = told_sound ws g.sound; start_is = start_own; asked = ap number_told (sym answer_is ∙ none) };
        }

    pub load_taken : asked ≡ Ok tt → {width : ℕ} {after : List ℤ} → width ≡ (begun_of start b).width
        → after ≡ over (encode_of (load_with m b (Ok tt)).machine) ws → Loads (Ok (Answer.Width width)) after
    load_taken none {width} width_is after_is =
        let is : load_with m b (Ok tt) ≡ load_of m b = ap (load_with m b) (sym none) ∙ loads in (
          ap (λ (n : ℕ). Ok (Answer.Width n)) (width_is ∙ ap (λ (p : Point). (begun_of p b).width) start_own)
              ∙ ap (λ (a : Answered). a.answer) is,
          after_is ∙ ap (λ (a : Answered). over (encode_of a.machine) ws) is,
        )
