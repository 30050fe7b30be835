-- How much of a slice is lent.
-- Assumes nothing.
use Rattle.std.specs.Prelude.{◌≡◌, ℕ, ◌+◌, ◌-◌, ◌*◌, cond, eqb, leb, min, List, length}
use Rattle.std.specs.Borrow.{MutBor}
use Rattle.source.specs.Bytes.{digit}

-- by its mark: `-` one short of the area, a digit so many more than it, any other nothing at all
abbrev pub marked : ℕ → ℕ → ℕ
marked area mark = cond (eqb mark 45) (area - 1) (cond (digit mark) (area + (mark - 48)) 0)

-- at most what there is room for
abbrev pub lent_len : ℕ → ℕ → ℕ → ℕ
lent_len area mark room = min (marked area mark) room

abbrev pub Slice : Type 0
Slice = MutBor (List ℕ)

-- a call, of which `post` says what it gives and leaves, was lent slices of i words, j bytes and k words, and gave r
pub record CalledWith {R : Type 0} (post : Slice → Slice → Slice → R → Slice → Slice → Slice → Type 0) (i j k : ℕ) (r : R) : Type 0 where
  pub tokens : Slice
  pub text : Slice
  pub tree : Slice
  pub tokens_after : Slice
  pub text_after : Slice
  pub tree_after : Slice
  pub tokens_len : length tokens.now ≡ i
  pub text_len : length text.now ≡ j
  pub tree_len : length tree.now ≡ k
  pub gave : post tokens text tree r tokens_after text_after tree_after

-- the same for a source of n bytes, by the marks a, b and c and where there is room for x words, y bytes and z words: its areas have 3 (n + 1), n and 16 n + 16
abbrev pub CalledByMarks : {R : Type 0} → (Slice → Slice → Slice → R → Slice → Slice → Slice → Type 0) → (n a b c x y z : ℕ) → R → Type 0
CalledByMarks post n a b c x y z r = CalledWith post (lent_len (3 * (n + 1)) a x) (lent_len n b y) (lent_len (16 * n + 16) c z) r

-- room for 9 more than the area of a source up to 1,023 bytes, or of any other
abbrev pub room : ℕ → ℕ → ℕ → ℕ
room n small large = cond (leb n 1023) small large
