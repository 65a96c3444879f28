-- A sound record's words, by what the code has found out of them.
use Rattle.std.specs.Prelude.{◌≡◌, Bool, true, false, Some, None, ◌&&◌, List, ℕ, min, eqb, ℤ, length}
use Rattle.std.proofs.Common.{sym, ◌∙◌}
use Rattle.std.proofs.Math.Path.{ap}
use Rattle.plane.specs.declared.point.Point.{Point}
use Rattle.plane.specs.declared.travel.Travel.{Travel}
use Rattle.queue.specs.laws.Test.{sound_with}
use Rattle.work.specs.declared.Work.{Work}
use Rattle.work.specs.Work.{is_nothing, end_of}
use Rattle.settings.specs.Settings.{capacity_of}
use Rattle.bench.specs.declared.Bench.{Bench}
use Rattle.bench.specs.computed.Bench.{sound_of as bench_sound}
use Rattle.machine.specs.computed.Machine.{waiting_right}
use Rattle.machine.specs.computed.Asked.{work_off}
use Rattle.machine.specs.laws.Right.{wrong_work, none_waiting, idle_waiting, busy_waiting}
use Rattle.encoding.specs.Words.{at, count_of}
use Rattle.record.specs.computed.Words.{len_in, queue_in, bench_in, machine_in, sound_words}
use Rattle.record.specs.computed.Right.{is_front, are_blocks}
use Rattle.record.specs.laws.Places.{queue_sixteen}
use Rattle.record.specs.laws.Right.{none, record_is}

-- ---- root, figure and queue

module _ (ws : List ℤ) (len q0 : ℕ) (t : Travel) (p : Point) (w : Work) (root left : ℕ) where
  -- the words of those that wait, and what waits
  abbrev right : Bool
  right = are_blocks ws 0 (min len 16) && waiting_right q0 t p w root left (queue_in ws len)

  not_right : waiting_right q0 t p w root left (queue_in ws len) ≡ false → right ≡ false
  not_right other = rw other (none (are_blocks ws 0 (min len 16)))

  pub work_wrong : None ≡ work_off p w root left → right ≡ false
  work_wrong e = not_right (wrong_work q0 t p w root left (queue_in ws len) e)

  module _ {rest : ℕ} (e : Some rest ≡ work_off p w root left) where
    pub none_right : len ≡ 0 → eqb rest 0 ≡ right
    unfolding are_blocks
    none_right zero =
        none_waiting q0 t p w root left (queue_in ws len) e (queue_sixteen ws len) zero
        ∙ ap (λ (n : ℕ). are_blocks ws 0 (min n 16) && waiting_right q0 t p w root left (queue_in ws len)) (sym zero)

    pub idle_wrong : (len ≡ 0 → ⊥) → is_nothing w ≡ true → right ≡ false
    idle_wrong some idle = not_right (idle_waiting q0 t p w root left (queue_in ws len) e some idle)

    pub busy_right : is_nothing w ≡ false
        → (are_blocks ws 0 (min len 16) && sound_with q0 t (end_of p w) rest (queue_in ws len)) ≡ right
    busy_right busy = ap (λ (b : Bool). are_blocks ws 0 (min len 16) && b) (busy_waiting q0 t p w root left (queue_in ws len) e busy)

-- ---- all of it

module _ (ws : List ℤ) (long : length ws ≡ 134) where
  abbrev waiting : Bench → Bool
  waiting k =
      waiting_right (capacity_of k.settings) k.settings.travel k.at k.work (count_of (at ws 19)) (count_of (at ws 20))
      (queue_in ws (len_in ws))

  abbrev blocks : Bool
  blocks = are_blocks ws 0 (min (len_in ws) 16)

  sound_is : sound_words ws ≡ ((is_front ws && blocks) && (bench_sound (bench_in ws) && waiting (bench_in ws)))
  unfolding sound_words machine_in
  sound_is = ap (λ (b : Bool). b && (bench_sound (bench_in ws) && waiting (bench_in ws))) (record_is ws long)

  pub front_wrong : is_front ws ≡ false → sound_words ws ≡ false
  front_wrong other = sound_is ∙ rw other

  pub bench_wrong : bench_sound (bench_in ws) ≡ false → sound_words ws ≡ false
  bench_wrong other = sound_is ∙ rw other (none (is_front ws && blocks))

  pub waiting_is : is_front ws ≡ true → bench_sound (bench_in ws) ≡ true → (blocks && waiting (bench_in ws)) ≡ sound_words ws
  waiting_is front bench = sym (sound_is ∙ rw (front, bench))
