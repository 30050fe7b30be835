-- What the definition says of some code points, computed.
-- Assumes nothing.
use mathlib.Core.Path.{◌≡◌, refl}
use mathlib.Core.Bool.{Bool, true, not, ◌&&◌}
use mathlib.Core.List.{List, [], ◌∷◌}
use Prim.Native.Nat.{ℕ}
use Rattle.xid.specs.Ranges.{holds}
use Rattle.xid.specs.Tables.{xid_start, xid_continue}
use Rattle.xid.specs.Classes.{is_start_lem, is_continue_lem}

-- each is in XID_Start and in XID_Continue
begins : List ℕ → Bool
begins [] = true
begins (c ∷ l) = is_start_lem c && (is_continue_lem c && begins l)

-- each is in XID_Continue and not in XID_Start
continues : List ℕ → Bool
continues [] = true
continues (c ∷ l) = not (is_start_lem c) && (is_continue_lem c && continues l)

-- each is in neither
neither : List ℕ → Bool
neither [] = true
neither (c ∷ l) = not (is_start_lem c) && (not (is_continue_lem c) && neither l)

-- é, Greek Ω and ω, Devanagari क, the sign ℘, the first and the last syllable of Hangul, 中, ﬁ, Linear B 𐀀, the last of XID_Start
letters : begins (0xE9 ∷ 0x3A9 ∷ 0x3C9 ∷ 0x915 ∷ 0x2118 ∷ 0xAC00 ∷ 0xD7A3 ∷ 0x4E2D ∷ 0xFB01 ∷ 0x10000 ∷ 0x323AF ∷ []) ≡ true
unfolding begins holds xid_start xid_continue
letters = refl

-- the digit 0, the underscore, the middle dot, a combining acute accent, the Arabic digit 0, the last of XID_Continue
marks : continues (0x30 ∷ 0x5F ∷ 0xB7 ∷ 0x301 ∷ 0x660 ∷ 0xE01EF ∷ []) ≡ true
unfolding continues holds xid_start xid_continue
marks = refl

-- $, ×, U+0378 (behind the Greek U+0377, and unassigned), the zero-width joiner, €, the line separator, U+D7A4 (behind the last syllable), a surrogate,
-- 😀, and what lies behind each table and behind Unicode
others : neither (0x24 ∷ 0xD7 ∷ 0x378 ∷ 0x200D ∷ 0x20AC ∷ 0x2028 ∷ 0xD7A4 ∷ 0xD800 ∷ 0x1F600 ∷ 0x323B0 ∷ 0xE01F0 ∷ 0x110000 ∷ []) ≡ true
unfolding neither holds xid_start xid_continue
others = refl
