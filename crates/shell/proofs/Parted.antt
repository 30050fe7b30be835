-- What is printed depends on the bytes alone, and not on the reads that handed them over: the joined chunks are the source.
-- A promise to people (docs/SENTENCES.md), of an input that no failed read ends.
-- Assumes nothing.
use mathlib.Core.Path.{◌≡◌, refl, ap, ◌∙◌}
use mathlib.Core.Bool.{Bool, true, false, cond}
use mathlib.Core.List.{List, [], ◌∷◌, ◌++◌, append_assoc, append-nil}
use Prim.Native.Nat.{ℕ, ◌<◌}
use native.Mathlib.Omega.{arith}
use borrow.Author.Tests.{ltb-true, lt-ltb}
use lib.Dec.{ltb}
use lib.ListN.{length, length-append}
use Rattle.printing.specs.Printed.{printed_no}
use Rattle.listing.specs.Listing.{listing}
use Rattle.shell.specs.Input.{front, longer, heard, shown}
use Rattle.shell.specs.Parted.{Filled, heard_all, joined}

longer_stays : (cs : List (List ℕ)) → heard_all longer cs ≡ longer
unfolding heard
longer_stays [] = refl
longer_stays (c ∷ cs) = longer_stays cs

listed_longer : (l : List ℕ) → 1023 < length l → printed_no 1 0 ≡ listing l
unfolding listing
listed_longer l h = rw (lt-ltb 1023 (length l) h)

-- one chunk more, with what was read before it
tested : (t : Bool) (m : List ℕ) (cs : List (List ℕ)) → ltb 1023 (length m) ≡ t → shown (heard_all (front m) cs) ≡ listing (m ++ joined cs) → shown (heard_all (cond t longer (front m)) cs) ≡ listing (m ++ joined cs)
tested true m cs e rest = ap shown (longer_stays cs) ∙ listed_longer (m ++ joined cs) (omega (arith, ltb-true 1023 (length m) e, length-append m (joined cs)))
tested false m cs e rest = rest

go : (l : List ℕ) (cs : List (List ℕ)) → Filled cs → shown (heard_all (front l) cs) ≡ listing (l ++ joined cs)
unfolding heard
go l [] s = rw append-nil
go l ([] ∷ cs) s = absurd s
go l ((x ∷ xs) ∷ cs) s =
    let m = l ++ (x ∷ xs) in
    tested (ltb 1023 (length m)) m cs refl (go m cs s) ∙ ap listing (append_assoc l (x ∷ xs) (joined cs))

pub parted : (cs : List (List ℕ)) → Filled cs → shown (heard_all (front []) cs) ≡ listing (joined cs)
parted cs s = go [] cs s
