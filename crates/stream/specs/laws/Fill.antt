-- A piece of the tick bytes in a buffer, and what is left after it.
use Rattle.std.specs.Prelude.{◌≡◌, refl, Bool, true, false, cond, List, ℕ, suc, ◌≤◌, ◌<◌, drop}
use Rattle.std.proofs.Math.Path.{sym, ap}
use Rattle.std.proofs.Common.{subst, ◌∙◌, true≢false}
use native.Mathlib.Omega.{arith}
use Rattle.std.proofs.Math.ListN.{length}
use Rattle.std.proofs.Math.Seq.{take-append_seam, drop-append_seam}
use Rattle.run.specs.computed.Run.{written}
use Rattle.bench.specs.declared.Bench.{Bench}
use Rattle.bench.specs.declared.Ran.{Ran}
use Rattle.bench.specs.computed.Run.{run_of}
use Rattle.bench.specs.laws.Run.{ticks_are}
use Rattle.job.specs.computed.Check.{enough}
use Rattle.job.specs.laws.Fill.{less_to_come}
use Rattle.stream.specs.declared.Stream.{Stream}
use Rattle.stream.specs.declared.Filled.{Filled}
use Rattle.stream.specs.computed.Stream.{lines_bytes, rest_of, at_machine, NextLine, Fills}
use Rattle.stream.specs.laws.Pieces.{pieces, no_tick_lem, run_fits, nothing_left}

-- lines that made no tick: of the stream that began as t, with the buffer as old
pub record Reading (t : Stream) (text old new : List ℕ) (stream : Stream) : Type 0 where
  pub rest : rest_of stream text ≡ rest_of t text
  pub same : new ≡ old
  pub room : 1 ≤ length old

-- nothing fits
pub fill_none : (t : Stream) (text old : List ℕ) → length old ≡ 0 → Fills t text old (record { len = 0; stream = t }) old
fill_none t text old none = record { bytes = refl; later = refl; room = omega arith; onward = λ room going. absurd (omega arith) }

module _ {t : Stream} {text old new : List ℕ} {stream : Stream} (g : Reading t text old new stream) where
  -- all is handed out
  pub fill_over : stream.over ≡ true → Fills t text old (record { len = 0; stream = stream }) new
  fill_over over =
      record { bytes = g.rest; later = g.same; room = omega arith; onward = λ room going. absurd (true≢false (sym over ∙ going)) }

  module _ {x : Ran} {after : List ℕ} (going : stream.over ≡ false) (ran : x ≡ (run_of stream.bench enough (length new)).ran)
      (wrote : after ≡ written (run_of stream.bench enough (length new)).bytes new) where
    abbrev bytes : List ℕ
    bytes = (run_of stream.bench enough (length new)).bytes

    abbrev lines : Bench → List ℕ
    lines m = lines_bytes m stream.reader stream.at text

    many : x.ticks ≡ length bytes
    many = ap (λ (r : Ran). r.ticks) ran ∙ ticks_are stream.bench enough (length new)

    pub fill_some : 0 < x.ticks → Fills t text old (record { len = x.ticks; stream = at_machine stream x.bench }) after
    unfolding rest_of written
    fill_some some =
        let p = pieces stream.bench (length new) lines in
        let b : length bytes ≤ length old = omega (arith, run_fits stream.bench (length new), ap length g.same) in
        record {
          bytes = rw (many, wrote, take-append_seam bytes (drop (length bytes) new), ran, going) (p ∙ rw going at g.rest);
          later = rw (many, wrote, drop-append_seam bytes (drop (length bytes) new), g.same);
          room = omega (arith, many);
          onward = λ room on. some;
        }

    pub read_on_lem : x.ticks ≤ 0 → {next : Stream} → NextLine stream text next → Reading t text old after next
    unfolding rest_of written
    read_on_lem none n =
        let zero : (run_of stream.bench enough (length new)).ran.ticks ≡ 0 = sym (ap (λ (r : Ran). r.ticks) ran) ∙ omega arith in
        let s = no_tick_lem stream.bench (length new) (omega (arith, g.room, ap length g.same)) zero in
        record {
          rest = n.rest ∙ sym (nothing_left stream.bench lines s) ∙ rw going at g.rest;
          same = (rw (s enough (length new)).0 at wrote) ∙ g.same;
          room = g.room;
        }

-- ---- for programs that fill a buffer until all is handed out

abbrev pub to_come : Stream → (text : List ℕ) → ℕ
to_come t text = cond t.over 0 (suc (length (rest_of t text)))

pub fill_less : {t : Stream} {text old new : List ℕ} {f : Filled} → Fills t text old f new → 1 ≤ length old → length new ≡ length old
    → t.over ≡ false
    → to_come f.stream text < to_come t text
fill_less {t} {text} {new = new} {f = f} fill room long going =
    subst (λ (over : Bool). to_come f.stream text < cond over 0 (suc (length (rest_of t text)))) (sym going)
    (less_to_come f.len new (rest_of f.stream text) f.stream.over fill.bytes (omega (arith, fill.room)) (fill.onward room))
