-- What the panel's two calls answer in C and the words after them, for any words whatever.
use Rattle.std.specs.Prelude.{◌≡◌, Bool, true, false, Option, Some, None, cond, ◌&&◌, List, ℕ, leb, ℤ, negsuc}
use Rattle.settings.specs.declared.Settings.{Settings}
use Rattle.bench.specs.declared.Bench.{Bench}
use Rattle.bench.specs.computed.Calls.{make_of}
use Rattle.reader.specs.computed.Reader.{longest_text}
use Rattle.encoding.specs.Words.{encode_of}
use Rattle.encoding.specs.computed.Right.{is_count}
use Rattle.encoding.specs.computed.Words.{bench_read, same_words, sound_words}
use Rattle.panel.specs.declared.PanelCheck.{PanelCheck}
use Rattle.panel.specs.declared.PieceRead.{PieceRead}
use Rattle.panel.specs.computed.Piece.{scratch_bytes, start_of, ReadsPiece}
use Rattle.cpanel.specs.Words.{encode_panel, panel_in}
use Rattle.cpanel.specs.Read.{told_number, is_last, ToldRead, tells_read, unchanged}

-- the words of a panel's check that begins at the bench that a make answers
abbrev pub start_panel : Settings → List ℤ
start_panel s = encode_panel (start_of (make_of s).bench)

-- ---- the panel's check that words tell

-- no more is left or held than a start and its reads leave
abbrev pub within_limits : PanelCheck → Bool
within_limits c = leb c.left longest_text && leb c.held scratch_bytes

-- the test by which the code knows the words: the nine are a progress or not, and this is the tenth
unfoldable pub panel_right : (progress : Bool) (held : ℤ) → PanelCheck → Bool
panel_right progress held c = progress && (is_count held && within_limits c)

-- whether words are a panel's check, and the one that they tell, whatever they are
pub record DecodedPanel : Type 0 where
  pub ok : Bool
  pub check : PanelCheck

-- Words are a panel's check if they are those of the one that they tell, and this is within the limits.
unfoldable pub decode_panel : Bench → List ℤ → DecodedPanel
decode_panel m ws = let c = panel_in m ws in record { ok = same_words ws (encode_panel c) && within_limits c; check = c }

-- the one that they tell, where they are one's
abbrev pub panel_check_told : Bench → List ℤ → Option PanelCheck
panel_check_told m ws = cond (decode_panel m ws).ok (Some (decode_panel m ws).check) None

-- the one that the words of a bench and of the panel tell, if they are a sound bench's and one's
abbrev pub panel_told : (ws ps : List ℤ) → DecodedPanel
panel_told ws ps = decode_panel (bench_read ws) ps

unfoldable pub is_panel : (ws ps : List ℤ) → Bool
is_panel ws ps = sound_words ws && (panel_told ws ps).ok

-- ---- a read

abbrev pub told_by : PieceRead → (free rows : List ℕ) → ToldRead
told_by f free rows =
    tells_read (told_number f.told) f.took f.wrote (encode_of f.check.tally.bench) (encode_panel f.check) free rows

-- of the check c
pub record Hands (c : PanelCheck) (scratch piece : List ℕ) (last : Bool) (old : List ℕ) (t : ToldRead) : Type 0 where
  pub read : PieceRead
  pub reads : ReadsPiece c scratch piece last old read t.free t.rows
  pub told : t ≡ told_by read t.free t.rows

-- what a read tells, whatever the words
pub data TellsRead (ws ps : List ℤ) (scratch piece : List ℕ) (last : ℤ) (old : List ℕ) (t : ToldRead) : Type 0 where
  check : is_panel ws ps ≡ true → Hands (panel_told ws ps).check scratch piece (is_last last) old t
      → TellsRead ws ps scratch piece last old t
  no_check : is_panel ws ps ≡ false → t ≡ unchanged (negsuc 8) ws ps scratch old → TellsRead ws ps scratch piece last old t
