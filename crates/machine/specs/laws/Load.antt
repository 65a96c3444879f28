-- A block that no question refuses: it comes into work, or it waits; either way its cycles are added to those still to do.
use Rattle.std.specs.Prelude.{◌≡◌, true, false, ℕ, ◌+◌, ◌^◌, ◌≤◌, ◌<◌, Ok}
use Rattle.std.proofs.Math.Path.{refl, sym, ap}
use Rattle.std.proofs.Common.{subst, ◌∙◌, ltb-true}
use mathlib.Core.List.{List}
use native.Mathlib.Omega.{arith}
use Rattle.std.proofs.Math.Dec.{ltb}
use Rattle.plane.specs.declared.point.Point.{Point}
use Rattle.plane.specs.declared.travel.Travel.{Travel}
use Rattle.plane.specs.Travel.{inside_of}
use Rattle.block.specs.declared.Block.{Block}
use Rattle.block.specs.Block.{block_cycles}
use Rattle.block.specs.Questions.{ask_load}
use Rattle.block.specs.Chain.{chain_end, chain_cycles, root_of}
use Rattle.block.specs.computed.Chain.{Accepted}
use Rattle.question.specs.declared.Question.{Question}
use Rattle.question.specs.laws.Ask.{answered}
use Rattle.block.proofs.laws.Chain.{cycles_more, chain_end_inside, chain_cycles_most}
use Rattle.block.proofs.laws.Accepted.{cycles_range}
use Rattle.queue.specs.Queue.{waiting, pushed_of, waiting_at}
use Rattle.queue.specs.laws.Waiting.{push_waiting, none_waits, waiting_length}
use Rattle.work.specs.declared.Work.{Work}
use Rattle.work.specs.Work.{is_nothing, cycles_left, end_of, begun_of}
use Rattle.work.specs.Work.{root_in}
use Rattle.work.specs.laws.Left.{nothing_is, begun_left, begun_root}
use Rattle.settings.specs.Settings.{capacity_of}
use Rattle.bench.specs.declared.Answer.{Answer}
use Rattle.bench.specs.declared.Bench.{Bench}
use Rattle.bench.specs.Bench.{moved_of}
use Rattle.machine.specs.declared.Machine.{Machine}
use Rattle.machine.specs.declared.Answered.{Answered}
use Rattle.machine.specs.Machine.{to_do, machine_of, start_of}
use Rattle.machine.specs.Calls.{answers, beginning}
use Rattle.machine.specs.computed.Calls.{load_with}
use Rattle.machine.specs.computed.Asked.{Taking}
use Rattle.machine.specs.laws.Right.{Sound, sound, WaitingRight}
use Rattle.machine.specs.laws.Onward.{wide, work_end_inside, work_left_most}

-- ---- any sound record

module _ (m : Machine) (i : Sound m) where
  abbrev k : Bench
  k = m.bench

  abbrev q0 : ℕ
  q0 = capacity_of k.settings

  abbrev t : Travel
  t = k.settings.travel

  right : WaitingRight q0 t k.at k.work m.root m.left m.queue
  right = i.right

  -- where the next block starts is in travel
  pub start_inside : inside_of t (start_of k m.queue) ≡ true
  start_inside = chain_end_inside q0 t (end_of k.at k.work) (waiting m.queue) (work_end_inside k i.bench)
      right.queue.accepted

  -- 17 blocks of 8,000,000 cycles at most
  pub left_bound : m.left ≤ 136000000
  unfolding to_do
  left_bound =
      omega (
        arith,
        right.left_is,
        work_left_most k i.bench,
        chain_cycles_most q0 t (end_of k.at k.work) (waiting m.queue) (wide k i.bench) (work_end_inside k i.bench)
            right.queue.accepted,
        waiting_length m.queue (omega (arith, right.queue.sixteen, right.queue.most)),
        right.queue.most,
      )

-- ---- a block that no question refuses

module _ {m : Machine} {start : Point} {b : Block} (g : Taking m start b) where
  abbrev mk : Bench
  mk = m.bench

  i' : Sound m
  i' = sound m g.sound

  room : ltb m.queue.len 16 ≡ true
  unfolding ask_load
  room = (answered {yes = ltb m.queue.len 16} Question.Room _ g.asked).0

  pub room_left : m.queue.len < 16
  room_left = ltb-true _ 16 room

  pub taken_accepted : Accepted start b
  taken_accepted =
      record {
        capacity = capacity_of mk.settings;
        travel = mk.settings.travel;
        wide = wide mk i'.bench;
        start_in = subst (λ (p : Point). inside_of mk.settings.travel p ≡ true) (sym g.start_is) (start_inside m i');
        none = rw room at g.asked;
      }

  -- the sum fits a word
  pub taken_fits : {c : ℕ} → c ≡ block_cycles start b → m.left + c < 2 ^ 64
  taken_fits e = omega (arith, e, left_bound m i', (cycles_range taken_accepted).1)

  module _ {w : Work} {bits root c : ℕ} (begun_is : w ≡ (begun_of start b).work) (bits_is : bits ≡ (begun_of start b).width)
      (root_is : root ≡ root_in w) (c_is : c ≡ cycles_left start w) where
    root_own : root ≡ root_of start b
    root_own = root_is ∙ ap root_in begun_is ∙ begun_root start b

    pub c_own : c ≡ block_cycles start b
    c_own = c_is ∙ ap (cycles_left start) begun_is ∙ begun_left start b

    abbrev answered_with : Machine → Answered
    answered_with n = answers (Ok (Answer.Width (begun_of (start_of mk m.queue) b).width)) n

    at_start : begun_of start b ≡ begun_of (start_of mk m.queue) b
    at_start = ap (λ (p : Point). begun_of p b) g.start_is

    -- nothing is in work: then none waits, and the block starts at the point
    module _ (idle : is_nothing mk.work ≡ true) where
      none : m.queue.len ≡ 0
      none = i'.right.none idle

      at_point : start ≡ mk.at
      unfolding chain_end
      at_point =
          g.start_is
          ∙ ap (λ (l : List Block). chain_end (end_of mk.at mk.work) l) (none_waits m.queue none)
          ∙ ap (end_of mk.at) (nothing_is mk.work idle)

      nothing_left : m.left ≡ 0
      unfolding to_do chain_cycles
      nothing_left =
          i'.right.left_is
          ∙ ap (λ (l : List Block). cycles_left mk.at mk.work + chain_cycles (end_of mk.at mk.work) l) (none_waits m.queue none)
          ∙ ap (λ (v : Work). cycles_left mk.at v + 0) (nothing_is mk.work idle)

      left_now : m.left + c ≡ to_do mk.at w (waiting m.queue)
      unfolding to_do chain_cycles
      left_now =
          ap (λ (n : ℕ). n + c) nothing_left
          ∙ by c (cycles_left start w) c_is
          ∙ ap (λ (p : Point). cycles_left p w + 0) at_point
          ∙ sym (ap (λ (l : List Block). cycles_left mk.at w + chain_cycles (end_of mk.at w) l) (none_waits m.queue none))
        where
          by : (x y : ℕ) → x ≡ y → 0 + x ≡ y + 0
          by x y e = omega arith

      pub into_work :
          ◌≡◌ {A = Answered}
          (answers (Ok (Answer.Width bits)) (record { bench = beginning mk w; root = root; left = m.left + c; queue = m.queue }))
          (load_with m b (Ok tt))
      unfolding machine_of moved_of
      into_work = rw (idle, bits_is, ← at_start, root_is, left_now, ← begun_is) refl

    -- a block is in work: this one waits
    module _ (busy : is_nothing mk.work ≡ false) where
      left_then_lem : m.left + c ≡ to_do mk.at mk.work (waiting (pushed_of m.queue (waiting_at start b)))
      unfolding to_do
      left_then_lem =
          omega (
            arith,
            i'.right.left_is,
            c_own,
            ap (chain_cycles (end_of mk.at mk.work))
                (push_waiting m.queue (waiting_at start b) (omega (arith, room_left, i'.right.queue.sixteen))),
            cycles_more (end_of mk.at mk.work) (waiting m.queue) b,
            ap (λ (p : Point). block_cycles p b) g.start_is,
          )

      pub waits :
          ◌≡◌ {A = Answered}
          (answers (Ok (Answer.Width bits)) (record {
            bench = mk;
            root = m.root;
            left = m.left + c;
            queue = pushed_of m.queue
                (record { block = b; root = root });
          }))
          (load_with m b (Ok tt))
      unfolding machine_of
      waits = rw (busy, bits_is, ← at_start, ← g.start_is, root_own, left_then_lem, i'.right.root_is) refl
