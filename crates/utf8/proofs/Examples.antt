-- What the definitions say of a few short texts, computed.
-- Assumes nothing.
use mathlib.Core.Path.{◌≡◌, refl}
use mathlib.Core.List.{List, [], ◌∷◌}
use Prim.Native.Nat.{ℕ}
use Rattle.std.specs.Prelude.{Option, Some, None}
use Rattle.source.specs.Text.{bytes}
use Rattle.utf8.specs.Table.{rows, sequence_length, first_ill_formed, utf8_error_lem, eight, taken, rounds_past, rounds}
use Rattle.utf8.specs.Character.{first_code}

says : List ℕ → Option ℕ
unfolding rows sequence_length first_ill_formed utf8_error_lem
says s = utf8_error_lem s

nothing : says [] ≡ None
unfolding says
nothing = refl

ascii : says (bytes "if a:\n") ≡ None
unfolding says
ascii = refl

-- U+0065, U+00E9, U+20AC and U+1F600: a sequence of each length
each_length : says (0x65 ∷ 0xC3 ∷ 0xA9 ∷ 0xE2 ∷ 0x82 ∷ 0xAC ∷ 0xF0 ∷ 0x9F ∷ 0x98 ∷ 0x80 ∷ []) ≡ None
unfolding says
each_length = refl

-- ED A0 80 would be the surrogate U+D800, ED 9F BF is U+D7FF
surrogate : says (0xED ∷ 0x9F ∷ 0xBF ∷ 0xED ∷ 0xA0 ∷ 0x80 ∷ []) ≡ Some 3
unfolding says
surrogate = refl

-- C0 AF would be U+002F and E0 9F BF U+07FF, each with a byte too many
overlong_two : says (0x61 ∷ 0xC0 ∷ 0xAF ∷ []) ≡ Some 1
unfolding says
overlong_two = refl

overlong_three : says (0xE0 ∷ 0x9F ∷ 0xBF ∷ []) ≡ Some 0
unfolding says
overlong_three = refl

-- a sequence that the end cuts off: the place is its first byte's, not the end
cut_off : says (0x61 ∷ 0x62 ∷ 0xE2 ∷ 0x82 ∷ []) ≡ Some 2
unfolding says
cut_off = refl

-- F4 8F BF BF is U+10FFFF, the last; F4 90 80 80 would be above it
too_large : says (0xF4 ∷ 0x8F ∷ 0xBF ∷ 0xBF ∷ 0xF4 ∷ 0x90 ∷ 0x80 ∷ 0x80 ∷ []) ≡ Some 4
unfolding says
too_large = refl

-- the code points of these sequences, and of 한, and of what is none
codes : (first_code (0x65 ∷ []) ≡ 0x65) × (first_code (0xC3 ∷ 0xA9 ∷ 0x65 ∷ []) ≡ 0xE9) × (first_code (0xE2 ∷ 0x82 ∷ 0xAC ∷ []) ≡ 0x20AC)
unfolding first_code sequence_length rows
codes = (refl, refl, refl)

more_codes : (first_code (0xF0 ∷ 0x9F ∷ 0x98 ∷ 0x80 ∷ []) ≡ 0x1F600) × (first_code (0xED ∷ 0x95 ∷ 0x9C ∷ []) ≡ 0xD55C) × (first_code (0xE2 ∷ 0x82 ∷ []) ≡ 0)
unfolding first_code sequence_length rows
more_codes = (refl, refl, refl)

-- the first and the last of each length
first_codes : (first_code (0xC2 ∷ 0x80 ∷ []) ≡ 0x80) × (first_code (0xE0 ∷ 0xA0 ∷ 0x80 ∷ []) ≡ 0x800) × (first_code (0xF0 ∷ 0x90 ∷ 0x80 ∷ 0x80 ∷ []) ≡ 0x10000)
unfolding first_code sequence_length rows
first_codes = (refl, refl, refl)

last_codes : (first_code (0xDF ∷ 0xBF ∷ []) ≡ 0x7FF) × (first_code (0xEF ∷ 0xBF ∷ 0xBF ∷ []) ≡ 0xFFFF) × (first_code (0xF4 ∷ 0x8F ∷ 0xBF ∷ 0xBF ∷ []) ≡ 0x10FFFF)
unfolding first_code sequence_length rows
last_codes = (refl, refl, refl)

-- the rounds
counts : List ℕ → ℕ
unfolding rows sequence_length eight taken rounds_past rounds
counts s = rounds s

-- nothing, one byte, seven bytes below 128, eight, nine and seventeen
few_rounds : (counts [] ≡ 0) × (counts (bytes "a") ≡ 1) × (counts (bytes "if a:\n ") ≡ 7)
unfolding counts
few_rounds = (refl, refl, refl)

eight_rounds : (counts (bytes "if abc:\n") ≡ 1) × (counts (bytes "if abcd:\n") ≡ 2) × (counts (bytes "if abc:\n  pass\n\n\n") ≡ 3)
unfolding counts
eight_rounds = (refl, refl, refl)

-- U+00E9 behind seven bytes: each is a round; behind eight: two; in front of eight: two
around : (counts (0x61 ∷ 0x61 ∷ 0x61 ∷ 0x61 ∷ 0x61 ∷ 0x61 ∷ 0x61 ∷ 0xC3 ∷ 0xA9 ∷ []) ≡ 8) × (counts (0x61 ∷ 0x61 ∷ 0x61 ∷ 0x61 ∷ 0x61 ∷ 0x61 ∷ 0x61 ∷ 0x61 ∷ 0xC3 ∷ 0xA9 ∷ []) ≡ 2) × (counts (0xC3 ∷ 0xA9 ∷ bytes "if abc:\n") ≡ 2)
unfolding counts
around = (refl, refl, refl)

-- an ill-formed sequence is a round, and the last; 128 as the eighth byte
bad_rounds : (counts (0xFF ∷ bytes "if abc:\n") ≡ 1) × (counts (0x61 ∷ 0xE2 ∷ 0x82 ∷ []) ≡ 2) × (counts (0x61 ∷ 0x61 ∷ 0x61 ∷ 0x61 ∷ 0x61 ∷ 0x61 ∷ 0x61 ∷ 0x80 ∷ []) ≡ 8)
unfolding counts
bad_rounds = (refl, refl, refl)
