-- The number of a word: what is written of it is read, and what is read of it is written.
use Rattle.std.specs.Prelude.{ℕ, ◌+◌, ◌-◌, ◌*◌, ◌^◌, ◌≤◌, ◌≡◌, refl, List, [], ◌∷◌, ◌++◌, Bool, true, false, cond, ltb, eqb, length}
use Rattle.std.specs.Prelude.{drop, Option, Some, None}
use Rattle.std.proofs.Common.{sym, ap, ◌∙◌, append_assoc, arith, length-append, drop-drop, ltb-false, le-ltb, eqb-true}
use Rattle.std.proofs.Common.{ne_eqb}
use Rattle.std.proofs.lemmas.Option.{none-some}
use Rattle.std.proofs.Math.Seq.{drop-append_seam}
use Rattle.letters.specs.declared.letter.Letter.{Letter}
use Rattle.letters.specs.Letter.{takes_sign, takes_point}
use Rattle.words.specs.declared.digits.Digits.{Digits}
use Rattle.words.specs.declared.number.Sign.{Sign as SignRead}
use Rattle.words.specs.declared.number.Amount.{Amount}
use Rattle.words.specs.declared.number.Number.{Number}
use Rattle.words.specs.Grammar.{Sign, unsigned, plus, minus, sign_text, digits_text, decimals_text}
use Rattle.words.specs.Grammar.{AllDigits, SignRight, PointRight, RightWord}
use Rattle.words.specs.Meaning.{number, magnitude_of, is_minus}
use Rattle.words.specs.computed.Scan.{first_byte, is_digit, digits, digits_of, sign, sign_of}
use Rattle.words.specs.computed.Scan.{amount, pointed_of, amount_after, amount_with, amount_of, with_sign, number_after, number_of}
use Rattle.words.specs.laws.Digits.{digits_in_lem, digits_read, in_thousandths}

-- ---- what is written is read

-- the text of a word after its letter
abbrev pub number_text : Sign → (whole decimals : List ℕ) → List ℕ
number_text sg w f = sign_text sg ++ (digits_text w ++ decimals_text f)

-- what follows a number is no part of it
pub record NumberEnds (s : List ℕ) : Type 0 where
  pub digit : is_digit (first_byte s) ≡ false
  pub point : eqb (first_byte s) 46 ≡ false

digits_length : (ds : List ℕ) → length (digits_text ds) ≡ length ds
digits_length [] = refl
digits_length (d ∷ ds) = rw (digits_length ds)

amount_same : {v v' k k' : ℕ} → v ≡ v' → k ≡ k' → amount v k ≡ amount v' k'
amount_same p q = cc

-- the magnitude of digits that write n and of decimals, in units of the letter
abbrev in_units : (fine : Bool) → ℕ → (decimals : List ℕ) → ℕ
in_units fine n f = n * cond fine 1000 1 + number f * 10 ^ (3 - length f)

pointed_read : (n k : ℕ) (f s : List ℕ) → 1 ≤ length f → AllDigits f → length f ≤ 3 → NumberEnds s
    → pointed_of (digits n k) (digits_of 3 n (digits_text f ++ s)) ≡ amount (in_units true n f) (k + (1 + length f))
pointed_read n k f s some a few end =
    rw (digits_read 3 n f s a few end.digit, le-ltb (length f) 1 some) (amount_same (in_thousandths n f few) (omega arith))

after_read : (fine : Bool) (n k : ℕ) (f s : List ℕ) → AllDigits f → length f ≤ 3 → PointRight fine f → NumberEnds s
    → amount_after fine (digits n k) (decimals_text f ++ s) ≡ amount (in_units fine n f) (k + length (decimals_text f))
after_read false n k f s a few p end = rw p (amount_same (omega arith) (omega arith))
after_read true n k [] s a few p end = rw end.point (amount_same (omega arith) (omega arith))
after_read true n k (d ∷ f) s a few p end =
    pointed_read n k (d ∷ f) s (omega arith) a few end ∙ amount_same refl (rw (digits_length f) (omega arith))

no_digit : (f s : List ℕ) → NumberEnds s → is_digit (first_byte (decimals_text f ++ s)) ≡ false
no_digit [] s end = end.digit
no_digit (d ∷ f) s end = refl

amount_read : (l : Letter) (sg : Sign) (w f s : List ℕ) → RightWord l sg w f → NumberEnds s
    → amount_of (takes_point l) (digits_text w ++ (decimals_text f ++ s))
    ≡ amount (magnitude_of l w f) (length (digits_text w ++ decimals_text f))
amount_read l sg w f s r end =
    let fine = takes_point l in
    let t = decimals_text f ++ s in
    let e = digits_read 7 0 w t r.digits r.most (no_digit f s end) in
    let g : drop (length w) (digits_text w ++ t) ≡ t = rw (← digits_length w) (drop-append_seam (digits_text w) t) in
    ap (λ (d : Digits). amount_with fine d (digits_text w ++ t)) e
    ∙ rw (le-ltb (length w) 1 r.some, g)
    (after_read fine (0 * 10 ^ length w + number w) (length w) f s r.decimals r.places r.point end
    ∙ amount_same (omega arith) (sym (length-append (digits_text w) (decimals_text f) ∙ rw (digits_length w))))

has_sign : (takes : Bool) (sg : Sign) → SignRight takes sg → (sg ≡ unsigned → ⊥) → takes ≡ true
has_sign true sg r some = refl
has_sign false sg r some = absurd (some r)

no_sign : (takes : Bool) (d : ℕ) → sign_of takes (48 + d) ≡ sign false 0
no_sign true d = rw (ne_eqb (48 + d) 45 (λ e. omega arith), ne_eqb (48 + d) 43 (λ e. omega arith))
no_sign false d = refl

sign_read : (takes : Bool) (sg : Sign) (w s : List ℕ) → SignRight takes sg → 1 ≤ length w
    → sign_of takes (first_byte (sign_text sg ++ (digits_text w ++ s))) ≡ sign (is_minus sg) (length (sign_text sg))
sign_read takes sg [] s r some = absurd (omega arith)
sign_read takes unsigned (d ∷ w) s r some = no_sign takes d
sign_read takes plus (d ∷ w) s r some = rw (has_sign takes plus r (λ e. let y : ◌≡◌ {A = ℕ} 0 1 = cc e in omega arith))
sign_read takes minus (d ∷ w) s r some = rw (has_sign takes minus r (λ e. let y : ◌≡◌ {A = ℕ} 0 1 = cc e in omega arith))

-- the number of a right word
abbrev pub right_number : Letter → Sign → (whole decimals : List ℕ) → Number
right_number l sg w f = record { negative = is_minus sg; magnitude = magnitude_of l w f; bytes = length (number_text sg w f) }

pub number_read : (l : Letter) (sg : Sign) (w f s : List ℕ) → RightWord l sg w f → NumberEnds s
    → number_of l (number_text sg w f ++ s) ≡ Some (right_number l sg w f)
number_read l sg w f s r end =
    let t = digits_text w ++ (decimals_text f ++ s) in
    let e = sign_read (takes_sign l) sg w (decimals_text f ++ s) r.sign r.some in
    simp append_assoc
    (ap (λ (g : SignRead). number_after (takes_point l) g (sign_text sg ++ t)) e
    ∙ rw (drop-append_seam (sign_text sg) t, length-append (sign_text sg) (digits_text w ++ decimals_text f))
    (ap (with_sign (sign (is_minus sg) (length (sign_text sg)))) (amount_read l sg w f s r end)))

-- ---- what is read is written

record SignIn (takes : Bool) (s : List ℕ) : Type 0 where
  sg : Sign
  right : SignRight takes sg
  text : sign_text sg ++ drop (sign_of takes (first_byte s)).bytes s ≡ s

sign_in : (takes : Bool) (s : List ℕ) → SignIn takes s
sign_in false s = record { sg = unsigned; right = refl; text = refl }
sign_in true [] = record { sg = unsigned; right = tt; text = refl }
sign_in true (b ∷ s) = by (eqb b 45) refl (eqb b 43) refl
  where
    by : (x : Bool) → eqb b 45 ≡ x → (y : Bool) → eqb b 43 ≡ y → SignIn true (b ∷ s)
    by true e y g = record { sg = minus; right = tt; text = rw e (rw (eqb-true b 45 e)) }
    by false e true g = record { sg = plus; right = tt; text = rw (e, g) (rw (eqb-true b 43 g)) }
    by false e false g = record { sg = unsigned; right = tt; text = rw (e, g) }

-- the decimals after the digits w
record AfterIn (fine : Bool) (w : Digits) (m : Amount) (s : List ℕ) : Type 0 where
  f : List ℕ
  digits : AllDigits f
  few : length f ≤ 3
  point : PointRight fine f
  bytes : m.bytes ≡ w.count + length (decimals_text f)
  text : decimals_text f ++ drop (length (decimals_text f)) s ≡ s

no_point : (fine : Bool) → PointRight fine []
no_point true = tt
no_point false = refl

some_same : {m n : Amount} → Some m ≡ Some n → m ≡ n
some_same e = cc

no_decimals : (fine : Bool) (w : Digits) (m : Amount) (s : List ℕ) → m.bytes ≡ w.count → AfterIn fine w m s
no_decimals fine w m s e = record { f = []; digits = tt; few = omega arith; point = no_point fine; bytes = rw e (omega arith); text = refl }

pointed_in : (w : Digits) (m : Amount) (s : List ℕ) → pointed_of w (digits_of 3 w.value s) ≡ Some m → AfterIn true w m (46 ∷ s)
pointed_in w m s h =
    let r = digits_in_lem 3 (digits w.value 0) s (omega arith) in
    by (ltb (digits_of 3 w.value s).count 1) refl r.list r.digits r.count r.few r.text
  where
    by : (none : Bool) → ltb (digits_of 3 w.value s).count 1 ≡ none
        → (f : List ℕ) → AllDigits f → (digits_of 3 w.value s).count ≡ 0 + length f → 0 + length f ≤ 3
        → digits_text f ++ drop (length f) s ≡ s → AfterIn true w m (46 ∷ s)
    by true e f a k few text = absurd (none-some _ (rw e at h))
    by false e [] a k few text = absurd (omega (arith, ltb-false (digits_of 3 w.value s).count 1 e))
    by false e (d ∷ f) a k few text =
        record {
          f = d ∷ f;
          digits = a;
          few = omega arith;
          point = tt;
          bytes = rw (sym (some_same (rw e at h))) (rw (k, digits_length f) (omega arith));
          text = ap (λ (x : List ℕ). 46 ∷ x) (ap (λ (n : ℕ). digits_text (d ∷ f) ++ drop n s) (digits_length (d ∷ f)) ∙ text);
        }

point_in : (w : Digits) (m : Amount) (s : List ℕ) → amount_after true w s ≡ Some m → AfterIn true w m s
point_in w m [] h = no_decimals true w m [] (rw (sym (some_same h)) refl)
point_in w m (b ∷ s) h = by (eqb b 46) refl
  where
    by : (x : Bool) → eqb b 46 ≡ x → AfterIn true w m (b ∷ s)
    by true e = let q = eqb-true b 46 e in rw q (pointed_in w m s (rw q at h))
    by false e = no_decimals true w m (b ∷ s) (rw (sym (some_same (rw e at h))) refl)

after_in : (fine : Bool) (w : Digits) (m : Amount) (s : List ℕ) → amount_after fine w s ≡ Some m → AfterIn fine w m s
after_in true w m s h = point_in w m s h
after_in false w m s h = no_decimals false w m s (rw (sym (some_same h)) refl)

record AmountIn (fine : Bool) (m : Amount) (s : List ℕ) : Type 0 where
  w : List ℕ
  f : List ℕ
  some : 1 ≤ length w
  most : length w ≤ 7
  places : length f ≤ 3
  digits : AllDigits w
  decimals : AllDigits f
  point : PointRight fine f
  text : (digits_text w ++ decimals_text f) ++ drop m.bytes s ≡ s

amount_in : (fine : Bool) (m : Amount) (s : List ℕ) → amount_of fine s ≡ Some m → AmountIn fine m s
amount_in fine m s h = by (ltb (digits_of 7 0 s).count 1) refl
  where
    by : (x : Bool) → ltb (digits_of 7 0 s).count 1 ≡ x → AmountIn fine m s
    by true e = absurd (none-some _ (rw e at h))
    by false e =
        let d = digits_of 7 0 s in
        let r = digits_in_lem 7 (digits 0 0) s (omega arith) in
        let k : d.count ≡ length r.list = r.count ∙ omega arith in
        let q = after_in fine d m (drop d.count s) (rw e at h) in
        record {
          w = r.list;
          f = q.f;
          some = omega (arith, ltb-false d.count 1 e);
          most = omega (arith, r.few);
          places = q.few;
          digits = r.digits;
          decimals = q.digits;
          point = q.point;
          text =
              ap (λ (n : ℕ). (digits_text r.list ++ decimals_text q.f) ++ drop n s) q.bytes
              ∙ rw (← drop-drop (length (decimals_text q.f)) d.count s, append_assoc, q.text, k) r.text;
        }

pub record NumberIn (l : Letter) (n : Number) (s : List ℕ) : Type 0 where
  pub sg : Sign
  pub w : List ℕ
  pub f : List ℕ
  pub right : RightWord l sg w f
  pub text : number_text sg w f ++ drop n.bytes s ≡ s

-- the number that is read is a sign and an amount
record SignedAmount (g : SignRead) (n : Number) (a : Option Amount) : Type 0 where
  m : Amount
  amount : a ≡ Some m
  bytes : n.bytes ≡ g.bytes + m.bytes

signed_amount : (g : SignRead) (n : Number) (a : Option Amount) → with_sign g a ≡ Some n → SignedAmount g n a
signed_amount g n None h = absurd (none-some _ h)
signed_amount g n (Some m) h = record { m = m; amount = refl; bytes = ap bytes_of (sym h) }
  where
    bytes_of : Option Number → ℕ
    bytes_of None = 0
    bytes_of (Some x) = x.bytes

pub number_in : (l : Letter) (n : Number) (s : List ℕ) → number_of l s ≡ Some n → NumberIn l n s
number_in l n s h =
    let g = sign_of (takes_sign l) (first_byte s) in
    let a = sign_in (takes_sign l) s in
    let t = drop g.bytes s in
    let p = signed_amount g n (amount_of (takes_point l) t) h in
    let r = amount_in (takes_point l) p.m t p.amount in
    record {
      sg = a.sg;
      w = r.w;
      f = r.f;
      right = record {
        some = r.some;
        most = r.most;
        places = r.places;
        digits = r.digits;
        decimals = r.decimals;
        sign = a.right;
        point = r.point;
      };
      text =
          ap (λ (k : ℕ). number_text a.sg r.w r.f ++ drop k s) p.bytes
          ∙ rw (← drop-drop p.m.bytes g.bytes s, append_assoc (sign_text a.sg), r.text) a.text;
    }
