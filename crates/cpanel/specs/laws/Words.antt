-- Words and panel's checks, exactly: the code's test passes where the words are those of what they tell, and one that a start reaches is
-- told by its words.
use Rattle.std.specs.Prelude.{◌≡◌, Bool, Some, None, ◌&&◌, ◌^◌, ◌<◌, ℤ, length, take}
use Rattle.std.proofs.Math.Path.{refl, sym, ap}
use Rattle.std.proofs.Common.{◌∙◌, arith, SFits}
use Rattle.std.proofs.Math.Bool.{true, false}
use mathlib.Core.List.{List, [], ◌∷◌, ◌++◌}
use Rattle.std.specs.Int.{w64}
use borrow.Author.Tests.{le-leb}
use Rattle.whole.specs.laws.Test.{both, joined, same_test}
use Rattle.bench.specs.declared.Bench.{Bench}
use Rattle.reader.specs.computed.Reader.{longest_text}
use Rattle.encoding.specs.Words.{count_of, at}
use Rattle.encoding.specs.computed.Right.{is_count}
use Rattle.encoding.specs.computed.Words.{same_words}
use Rattle.encoding.specs.laws.Right.{count_again, count_right, words_at, each}
use Rattle.encoding.specs.laws.Same.{same_true, same_self, same_words_lem}
use Rattle.encoding.specs.laws.Record.{count_word}
use Rattle.job.specs.declared.Check.{Check}
use Rattle.progress.specs.computed.Progress.{DecodedProgress, check_told}
use Rattle.progress.specs.laws.Told.{told_none, told_some}
use Rattle.progress.specs.Progress.{encode_progress, check_in}
use Rattle.progress.specs.computed.Progress.{decode_progress}
use Rattle.progress.specs.laws.Inverse.{reached_fits, progress_decode}
use Rattle.panel.specs.declared.PanelCheck.{PanelCheck}
use Rattle.panel.specs.computed.Piece.{scratch_bytes}
use Rattle.panel.specs.computed.Rest.{ReachedPanel}
use Rattle.cpanel.specs.Words.{as_check, encode_panel, panel_of, panel_in}
use Rattle.cpanel.specs.computed.Panel.{within_limits, panel_right, decode_panel, panel_check_told}

-- ---- the code's test

pub nine_of : (ws : List ℤ) → length ws ≡ 10 → words_at 0 9 ws ≡ take 9 ws
nine_of ws all = ap (take 9) (sym (each 10 ws all))

-- nine words, and the tenth
parted : (ws : List ℤ) → length ws ≡ 10 → ws ≡ take 9 ws ++ (at ws 9 ∷ [])
parted ws all = each 10 ws all ∙ ap (λ (l : List ℤ). take 9 l ++ (at ws 9 ∷ [])) (sym (each 10 ws all))

module _ (m : Bench) (ws : List ℤ) (all : length ws ≡ 10) (held : SFits w64 (at ws 9)) where
  same : ((decode_progress m (take 9 ws)).ok && is_count (at ws 9)) ≡ same_words ws (encode_panel (panel_in m ws))
  unfolding decode_progress encode_progress encode_panel panel_in
  same =
      same_test
      (λ t.
      let b = both {a = (decode_progress m (take 9 ws)).ok} t in
      let nine = same_true (take 9 ws) (encode_progress (check_in m (take 9 ws))) b.0 in
      sym (same_words_lem (parted ws all
      ∙ ap (λ (l : List ℤ). l ++ (at ws 9 ∷ [])) nine
      ∙ ap (λ (z : ℤ). encode_progress (check_in m (take 9 ws)) ++ (z ∷ [])) (sym (count_again (at ws 9) held b.1)))))
      (λ t.
      let e = same_true ws (encode_panel (panel_in m ws)) t in
      joined (sym (same_words_lem (ap (take 9) e))) (count_right (at ws 9) (sym (ap (λ (l : List ℤ). at l 9) e))))

  panel_same : panel_right (decode_progress m (take 9 ws)).ok (at ws 9) (panel_in m ws) ≡ (decode_panel m ws).ok
  unfolding panel_right decode_panel
  panel_same = rw (← same) (associates (decode_progress m (take 9 ws)).ok (is_count (at ws 9)) (within_limits (panel_in m ws)))
    where
      associates : (a b c : Bool) → (a && (b && c)) ≡ ((a && b) && c)
      associates true b c = refl
      associates false b c = refl

  -- the words are one's where the nine tell a progress and the tests pass, and tell this one
  pub panel_missing : None ≡ check_told m (take 9 ws) → None ≡ panel_check_told m ws
  unfolding panel_right
  panel_missing none = rw (sym panel_same, told_none (decode_progress m (take 9 ws)).ok (decode_progress m (take 9 ws)).check none) refl

  module _ {p : Check} (e : Some p ≡ check_told m (take 9 ws)) {c : PanelCheck} (f : c ≡ panel_of p (count_of (at ws 9))) where
    told : ((decode_progress m (take 9 ws)).ok ≡ true) × (p ≡ (decode_progress m (take 9 ws)).check)
    told = told_some (decode_progress m (take 9 ws)).ok (decode_progress m (take 9 ws)).check e

    own : c ≡ panel_in m ws
    unfolding decode_progress panel_in
    own = f ∙ ap (λ (k : Check). panel_of k (count_of (at ws 9))) told.1

    test : panel_right true (at ws 9) c ≡ (decode_panel m ws).ok
    test = rw own (rw told.0 at panel_same)

    pub panel_wrong : panel_right true (at ws 9) c ≡ false → None ≡ panel_check_told m ws
    panel_wrong bad = rw (sym test ∙ bad) refl

    pub panel_decoded : panel_right true (at ws 9) c ≡ true → Some c ≡ panel_check_told m ws
    unfolding decode_panel
    panel_decoded right = rw (sym test ∙ right, own) refl

-- ---- from a panel's check to words and back

pub ten_of : (ws : List ℤ) (z : ℤ) → length ws ≡ 9 → words_at 0 9 ws ++ (z ∷ []) ≡ ws ++ (z ∷ [])
ten_of ws z all = ap (λ (l : List ℤ). l ++ (z ∷ [])) (sym (each 9 ws all))

module _ (c : PanelCheck) (r : ReachedPanel c) where
  back : panel_in c.tally.bench (encode_panel c) ≡ c
  unfolding panel_in encode_panel encode_progress decode_progress
  back =
      let held : c.held < 2 ^ 63 = omega (arith, r.held) in
      rw (
        ap (λ (d : DecodedProgress). d.check) (progress_decode (as_check c) (reached_fits (as_check c) r.tally)),
        count_word held,
      )

  pub panel_decode : decode_panel c.tally.bench (encode_panel c) ≡ record { ok = true; check = c }
  unfolding decode_panel
  panel_decode =
      rw (back, same_self (encode_panel c), le-leb c.left longest_text r.left, le-leb c.held scratch_bytes r.held)
