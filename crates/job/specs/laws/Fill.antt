-- Rows gathered in a buffer, one after the other, are the next bytes of what was still to come.
use Rattle.std.specs.Prelude.{◌≡◌, refl, Bool, true, false, cond, List, ◌++◌, ℕ, suc, ◌+◌, ◌≤◌, ◌<◌, length, take, drop}
use Rattle.std.proofs.Common.{sym, ap, ◌∙◌, append_assoc, arith, length-append, length-take-le, drop-drop, leb-true}
use Rattle.row.specs.computed.Buffer.{line_room, has_room}
use Rattle.row.specs.laws.Buffer.{placed_length, placed_front, placed_rest}
use Rattle.job.specs.declared.Check.{Check}
use Rattle.job.specs.declared.Step.{Step}
use Rattle.job.specs.declared.Filled.{Filled}
use Rattle.job.specs.Check.{is_over}
use Rattle.job.specs.computed.Check.{rest_of, Keeps, Steps, Fills}

-- so far: of the check that began as c, with the buffer as old
pub record Filling (c : Check) (text old : List ℕ) (new : List ℕ) (check : Check) (len : ℕ) : Type 0 where
  pub bytes : take len new ++ rest_of check text ≡ rest_of c text
  pub later : drop len new ≡ drop len old
  pub room : len ≤ length old
  pub long : length new ≡ length old
  pub keeps : Keeps c check

pub filling_start : (c : Check) (text old : List ℕ) → Filling c text old old c 0
filling_start c text old = record { bytes = refl; later = refl; room = omega arith; long = refl; keeps = λ r. r }

module _ {c : Check} {text old new : List ℕ} {check : Check} {len : ℕ} (f : Filling c text old new check len) where
  pub filling_done : (line_room ≤ length old → is_over check ≡ false → 1 ≤ len) → Fills c text old (record { len = len; check = check }) new
  filling_done onward = record { bytes = f.bytes; later = f.later; room = f.room; onward = onward; keeps = f.keeps }

  pub filling_on : has_room new len ≡ true → {s : Step} {new' : List ℕ} → Steps check text new len s new'
      → Filling c text old new' s.check s.next
  filling_on free {s} {new'} t =
      let fits : len + length t.line ≤ length new = omega (arith, t.room, leb-true (len + line_room) (length new) free) in
      rw (t.next, t.buffer)
      (record {
        bytes =
            ap (λ (front : List ℕ). front ++ rest_of s.check text) (placed_front t.line new len fits)
            ∙ append_assoc (take len new) t.line (rest_of s.check text)
            ∙ ap (λ (rest : List ℕ). take len new ++ rest) t.bytes
            ∙ f.bytes;
        later = placed_rest t.line new len fits ∙ sym (drop-drop (length t.line) len new) ∙ ap (drop (length t.line)) f.later
            ∙ drop-drop (length t.line) len old;
        room = omega (arith, f.long);
        long = placed_length t.line new len fits ∙ f.long;
        keeps = λ r. t.keeps (f.keeps r);
      })

-- ---- for programs that fill a buffer until all is handed out

-- some bytes handed out leave less to come, and so does the end
pub less_to_come : {rest : List ℕ} (len : ℕ) (new next : List ℕ) (over : Bool) → take len new ++ next ≡ rest → len ≤ length new
    → (over ≡ false → 1 ≤ len)
    → cond over 0 (suc (length next)) < suc (length rest)
less_to_come len new next true e room onward = omega arith
less_to_come len new next false e room onward =
    omega (arith, onward refl, length-take-le len new room, length-append (take len new) next, ap length e)

abbrev pub to_come : Check → (text : List ℕ) → ℕ
to_come c text = cond (is_over c) 0 (suc (length (rest_of c text)))

pub fill_less : {c : Check} {text old new : List ℕ} {f : Filled} → Fills c text old f new → line_room ≤ length old → length new ≡ length old
    → is_over c ≡ false
    → to_come f.check text < to_come c text
fill_less {text = text} {new = new} {f = f} fill room long going =
    rw going (less_to_come f.len new (rest_of f.check text) (is_over f.check) fill.bytes (omega (arith, fill.room))
    (fill.onward room))
