-- What a lent slice holds once a text was written into it. The writer's promise cites `room`; `Gives` is of an inner function, and says of the slice what
-- `result` of the writer says.
-- Assumes nothing.
use Rattle.std.specs.Prelude.{ℕ, ◌-◌, ◌≤◌, ◌<◌, min, ◌≡◌, List, ◌++◌, length, replicate, Option, Some, None}

-- the longest text that a slice of n bytes takes: "18 where the text is longer than the lent slice or than 65,536 bytes" (02, change 6)
abbrev pub room : ℕ → ℕ
room n = min n 65536

-- a slice of n bytes afterwards: "a text written is answered by 0 and its length, the slice past it zeroed"; 18: "both zero that slice"
abbrev pub Gives : List ℕ → ℕ → Option ℕ → List ℕ → Type 0
Gives t n (Some k) out' = (k ≡ length t) × (length t ≤ room n) × (out' ≡ t ++ replicate (n - length t) 0)
Gives t n None out' = (room n < length t) × (out' ≡ replicate n 0)
