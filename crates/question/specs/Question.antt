-- 01, "Questions, and the number when the answer is no": each question has a number, and "each number comes only from its own "no"".
use Rattle.std.specs.Prelude.{Bool, true, false, ℕ, Result, Ok, Err, ⊤}
use Rattle.question.specs.declared.Question.{Question}

abbrev pub number_of : Question → ℕ
-- "Settings: is p in 1..1,000? 1."
number_of Question.Scale = 1
-- "Is w in 1,000..20,000? 2."
number_of Question.Clock = 2
-- "Is each axis -1,000,000 ≤ lower ≤ 0 ≤ upper ≤ 1,000,000? 3."
number_of Question.Travel = 3
-- "Any call on a record: is it sound? 9."
number_of Question.Sound = 9
-- "Load, after 9, in this order: is nothing in work? 10." 02 §3: "Question 10 becomes: are fewer than 16 waiting?"
number_of Question.Room = 10
-- "Is f in 1..q0? 11."
number_of Question.Feed = 11
-- "Is the end in travel? 12."
number_of Question.EndInTravel = 12
-- "Line: do start and end differ? 13."
number_of Question.Moves = 13
-- "Arc: are I and J within ±1,000,000 and not both 0? 14."
number_of Question.Centre = 14
-- "Is the end a circle point? 15."
number_of Question.EndOnCircle = 15
-- "Is every visited point in travel? 16."
number_of Question.VisitsInTravel = 16
-- "is the text at most 65,536 bytes (asked once, line 1)? 30."
number_of Question.TextLength = 30
-- "Is the line at most 80 bytes without its LF (byte 10)? 31."
number_of Question.LineLength = 31
-- "Is it made of zero or more words, with any number of blanks (byte 32) or none before, between and after? 32."
number_of Question.Words = 32
-- "No letter twice? 33."
number_of Question.LettersOnce = 33
-- "Is G 1, 2 or 3? 34."
number_of Question.Motion = 34
-- "Do X, Y, I, J fall on whole pulses? 35."
number_of Question.OnPulse = 35
-- "If one of those four stands, are a G and an F known? 36."
number_of Question.MotionAndFeed = 36
-- "Do I or J stand only under G 2 or 3, and does a line under 2 or 3 with X or Y have I or J? 37."
number_of Question.CentreAsMotion = 37
-- 02 §1: "38: more than 1,000,000 ticks, checked after 9."
number_of Question.LookLength = 38

-- the next question where the answer is yes, else this one
abbrev pub ask : (yes : Bool) (next : Result ⊤ Question) → Question → Result ⊤ Question
ask true next q = next
ask false next q = Err q

-- the number that an answer tells; 0 says that no question was answered by no
abbrev pub number_told : {A : Type 0} → Result A Question → ℕ
number_told (Ok value) = 0
number_told (Err q) = number_of q
