-- Well-formed UTF-8 (The Unicode Standard, chapter 3, table 3-7 "Well-Formed UTF-8 Byte Sequences"), and question 5 of 01: "UTF-8 by Unicode
-- table 3-7? No: 5, first byte of the bad sequence". Behind them the rounds of the check (02, change 2).
-- Assumes nothing.
use Rattle.std.specs.Prelude.{ℕ, zero, suc, ◌+◌, ◌-◌, Bool, true, false, cond, ◌&&◌, List, [], ◌∷◌, length, drop, replicate, Option, Some, None}
use Rattle.source.specs.Bytes.{between}

-- a row of the table: the range of each byte of a sequence, both ends included
abbrev pub Row : Type 0
Row = List (ℕ × ℕ)

-- table 3-7, row by row:    U+0000..U+007F
--                           U+0080..U+07FF
--                           U+0800..U+0FFF
--                           U+1000..U+CFFF
--                           U+D000..U+D7FF
--                           U+E000..U+FFFF
--                           U+10000..U+3FFFF
--                           U+40000..U+FFFFF
--                           U+100000..U+10FFFF
unfoldable pub rows : List Row
rows =
    ((0x00, 0x7F) ∷ [])
    ∷ ((0xC2, 0xDF) ∷ (0x80, 0xBF) ∷ [])
    ∷ ((0xE0, 0xE0) ∷ (0xA0, 0xBF) ∷ (0x80, 0xBF) ∷ [])
    ∷ ((0xE1, 0xEC) ∷ (0x80, 0xBF) ∷ (0x80, 0xBF) ∷ [])
    ∷ ((0xED, 0xED) ∷ (0x80, 0x9F) ∷ (0x80, 0xBF) ∷ [])
    ∷ ((0xEE, 0xEF) ∷ (0x80, 0xBF) ∷ (0x80, 0xBF) ∷ [])
    ∷ ((0xF0, 0xF0) ∷ (0x90, 0xBF) ∷ (0x80, 0xBF) ∷ (0x80, 0xBF) ∷ [])
    ∷ ((0xF1, 0xF3) ∷ (0x80, 0xBF) ∷ (0x80, 0xBF) ∷ (0x80, 0xBF) ∷ [])
    ∷ ((0xF4, 0xF4) ∷ (0x80, 0x8F) ∷ (0x80, 0xBF) ∷ (0x80, 0xBF) ∷ [])
    ∷ []

-- the list starts with a byte of each range of the row
abbrev pub fits : Row → List ℕ → Bool
fits [] l = true
fits (r ∷ rs) [] = false
fits (r ∷ rs) (b ∷ l) = between r.0 r.1 b && fits rs l

-- the length of the first row that fits, and 0 where none does
abbrev pub length_by : List Row → List ℕ → ℕ
length_by [] l = 0
length_by (row ∷ more) l = cond (fits row l) (length row) (length_by more l)

-- a length of 0 is none
abbrev pub some_length : ℕ → Option ℕ
some_length zero = None
some_length (suc n) = Some (suc n)

-- the length of the well-formed sequence at the front of the list, and 0 where there is none
unfoldable pub sequence_length : List ℕ → ℕ
sequence_length l = length_by rows l

-- the same as an answer: a length, or none
abbrev pub sequence_at : List ℕ → Option ℕ
sequence_at l = some_length (sequence_length l)

-- what is found at i, where l stands and begins with a sequence of n bytes: at the end all is well; where no sequence begins, the ill-formed one
-- begins at i; behind a sequence the rest decides
abbrev pub step : List ℕ → ℕ → ℕ → Option ℕ → Option ℕ
step [] n i rest = None
step (b ∷ l) zero i rest = Some i
step (b ∷ l) (suc n) i rest = rest

-- the first place from i on where no well-formed sequence begins, the list being what stands at i. Each sequence takes a byte or more, so as
-- much fuel as the list has bytes is enough (proofs/Rows.antt, `enough`)
unfoldable pub first_ill_formed : ℕ → ℕ → List ℕ → Option ℕ
first_ill_formed zero i l = None
first_ill_formed (suc fuel) i l = step l (sequence_length l) i (first_ill_formed fuel (i + sequence_length l) (drop (sequence_length l) l))

-- the first byte of the first ill-formed sequence of the whole list; none where it is well-formed UTF-8
unfoldable pub utf8_error_lem : List ℕ → Option ℕ
utf8_error_lem s = first_ill_formed (length s) 0 s

-- "each taking the next eight bytes if all are under 128": eight ranges from 0 to 127, which a list fits as it fits a row
unfoldable pub eight : Row
eight = replicate 8 (0x00, 0x7F)

-- how many bytes a round takes at the front of the list: eight such, "else one sequence, good or bad"; a bad one has no length
unfoldable pub taken : List ℕ → ℕ
taken l = cond (fits eight l) 8 (sequence_length l)

-- "one added in each": behind a round that takes n bytes the rest's are counted; a bad sequence's round is the last
abbrev pub one_more_lem : ℕ → ℕ → ℕ
one_more_lem zero rest = 1
one_more_lem (suc n) rest = suc rest

-- the rounds over a list whose first k bytes belong to a round that is counted already
unfoldable pub rounds_past : ℕ → List ℕ → ℕ
rounds_past k [] = 0
rounds_past (suc k) (b ∷ l) = rounds_past k l
rounds_past zero (b ∷ l) = one_more_lem (taken (b ∷ l)) (rounds_past (taken (b ∷ l) - 1) l)

-- the rounds over the whole list (for bytes under 128 alone: proofs/Plain.antt, `plain_rounds`)
unfoldable pub rounds : List ℕ → ℕ
rounds s = rounds_past 0 s
