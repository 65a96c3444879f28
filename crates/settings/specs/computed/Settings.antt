-- Questions 1 to 3 as tests. Crate demands says them in the paper's words.
use Rattle.std.specs.Prelude.{Bool, ◌&&◌, ℕ, leb, pos, negsuc, Result, Ok, ⊤}
use Rattle.plane.specs.declared.travel.Range.{Range}
use Rattle.plane.specs.declared.travel.Travel.{Travel}
use Rattle.plane.specs.Travel.{within_of}
use Rattle.question.specs.declared.Question.{Question}
use Rattle.question.specs.Question.{ask, number_told}
use Rattle.settings.specs.declared.Settings.{Settings}

-- "Is each axis -1,000,000 ≤ lower ≤ 0 ≤ upper ≤ 1,000,000?"
unfoldable pub axis_right : Range → Bool
axis_right r = within_of (record { lower = negsuc 999999; upper = pos 0 }) r.lower && within_of
    (record { lower = pos 0; upper = pos 1000000 }) r.upper

unfoldable pub travel_right : Travel → Bool
travel_right t = axis_right t.x && axis_right t.y

abbrev pub in_range : (low high v : ℕ) → Bool
in_range low high v = leb low v && leb v high

-- "Settings: is p in 1..1,000? 1. Is w in 1,000..20,000? 2. Is each axis .. ? 3."
unfoldable pub ask_settings : Settings → Result ⊤ Question
ask_settings s =
    ask (in_range 1 1000 s.scale)
    (ask (in_range 1000 20000 s.clock)
    (ask (travel_right s.travel) (Ok tt) Question.Travel)
    Question.Clock)
    Question.Scale

-- the number of the first one answered by no, or 0
abbrev pub settings_no : Settings → ℕ
settings_no s = number_told (ask_settings s)
