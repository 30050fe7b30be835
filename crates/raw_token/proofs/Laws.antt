-- What a found token is: an entry of the table with its code matches there. The scanner's proofs and the crate lexical cite these laws, and `token_within`
-- of proofs/Within.antt; `int_token`, `float_token`, `newline_token` and `other_character` are promises to people (docs/SENTENCES.md).
-- Assumes nothing.
use mathlib.Core.Path.{◌≡◌, refl, sym, ap, ◌∙◌}
use mathlib.Core.Bool.{Bool, true, false, cond, not, ◌&&◌, ◌||◌, true≢false}
use mathlib.Core.List.{List, [], ◌∷◌}
use mathlib.Core.Logic.{◌⊎◌, inl, inr}
use Prim.Native.Nat.{ℕ, zero, suc, ◌+◌, ◌<◌, ◌≤◌}
use native.Mathlib.Omega.{arith}
use lib.Dec.{eqb, leb, ltb}
use lib.ListN.{length, get_or, drop}
use borrow.Author.Tests.{eqb-true, leb-true, le-leb}
use Rattle.source.specs.Bytes.{between, digit}
use Rattle.source.proofs.Bools.{and_left, and_right, or_either, or_rest}
use Rattle.source.proofs.Lists.{at_cons, inside}
use Rattle.utf8.specs.Character.{first_code}
use Rattle.token.specs.Code.{Int, String, Identifier, Float, Dot, Newline}
use Rattle.raw_token.specs.Pattern as P
use Rattle.raw_token.specs.Pattern.{begins_name_lem, is_sign_lem, is_quote}
use Rattle.raw_token.specs.Table.{Pattern, literal, int, string, name, float, len, Entry, table, longer, longest, token_at_lem}
use Rattle.std.specs.Prelude.{Some, None}
use Rattle.raw_token.specs.Table.{raw_token}
use Rattle.raw_token.proofs.Names.{name_begins, name_missed}
use Rattle.raw_token.proofs.First.{starts, miss, single, non_ascii}
use Rattle.raw_token.proofs.Within.{Best, same_token, found_best, token_within}

-- a test holds of each entry
abbrev pub all : (ℕ → Pattern → Bool) → List Entry → Bool
all t [] = true
all t (e ∷ es) = t e.0 e.1 && all t es

-- a pattern of which the test holds with the code of `best`, and whose match `best` is
record Match (t : ℕ → Pattern → Bool) (l : List ℕ) (best : ℕ × ℕ) : Type 0 where
  pattern : Pattern
  holds : t best.0 pattern ≡ true
  is : best.1 ≡ len pattern l

best_match : (t : ℕ → Pattern → Bool) (es : List Entry) (best : ℕ × ℕ) (l : List ℕ) → all t es ≡ true → (best.1 ≡ 0) ⊎ Match t l best → ((longest best es l).1 ≡ 0) ⊎ Match t l (longest best es l)
best_match t [] best l a m = m
best_match t (e ∷ es) best l a m =
    best_match t es (longer best e.0 (len e.1 l)) l (and_right (t e.0 e.1) (all t es) a) (go (ltb best.1 (len e.1 l)))
  where
    go : (u : Bool) → ((cond {A = ℕ × ℕ} u (e.0, len e.1 l) best).1 ≡ 0) ⊎ Match t l (cond u (e.0, len e.1 l) best)
    go true = inr (record { pattern = e.1; holds = and_left (t e.0 e.1) (all t es) a; is = refl })
    go false = m

-- a token's pattern: the test holds of it with the token's code, its match is the token, and it can start with the byte there
pub record Matched (t : ℕ → Pattern → Bool) (s : List ℕ) (at code end : ℕ) : Type 0 where
  pub pattern : Pattern
  pub holds : t code pattern ≡ true
  pub ends : end ≡ at + len pattern (drop at s)
  pub first : starts pattern (get_or s at 0) ≡ true

first_starts : (p : Pattern) (s : List ℕ) (at : ℕ) → at < length s → 0 < len p (drop at s) → starts p (get_or s at 0) ≡ true
first_starts p s at h k = go (starts p (get_or s at 0)) (λ e. ap (len p) (at_cons s at h) ∙ miss p (get_or s at 0) (drop (at + 1) s) e)
  where
    go : (u : Bool) → (u ≡ false → len p (drop at s) ≡ 0) → u ≡ true
    go true f = refl
    go false f = let z = f refl in absurd (omega arith)

-- what one computed test says of every entry holds of every token found
pub matched : (t : ℕ → Pattern → Bool) → all t table ≡ true → (s : List ℕ) (at code end : ℕ) → token_at_lem s at ≡ Some (raw_token code end) → Matched t s at code end
unfolding token_at_lem
matched t a s at code end e =
    let best = longest (0, 0) table (drop at s) in
    go best (best_match t table (0, 0) (drop at s) a (inl refl)) (found_best at best code end e) (token_within s at code end e)
  where
    go : (best : ℕ × ℕ) → (best.1 ≡ 0) ⊎ Match t (drop at s) best → Best at best code end → (at < end) × (end ≤ length s) → Matched t s at code end
    go best (inl z) b w = let k = b.some in absurd (omega arith)
    go best (inr m) b w =
        let e = b.end_is in
        let k = m.is in
        record { pattern = m.pattern; holds = rw (← b.code_is) m.holds; ends = omega arith; first = first_starts m.pattern s at (omega arith) (omega (arith, b.some)) }

-- the codes that a token can have: those from If to Dot, and Newline
coded : ℕ → Pattern → Bool
coded c p = between 1 Dot c || eqb c Newline

all_coded : all coded table ≡ true
unfolding coded table
all_coded = refl

module _ (s : List ℕ) (at code end : ℕ) (e : token_at_lem s at ≡ Some (raw_token code end)) where
  pub token_code : (1 ≤ code) × ((code ≤ Dot) ⊎ (code ≡ Newline))
  unfolding coded
  token_code =
      or_either (between 1 Dot code) (eqb code Newline)
      (λ h. (leb-true 1 code (and_left (leb 1 code) (leb code Dot) h), inl (leb-true code Dot (and_right (leb 1 code) (leb code Dot) h))))
      (λ h. let n = eqb-true code Newline h in (omega arith, inr n))
      (matched coded all_coded s at code end e).holds

-- the code of a pattern that is no text, and 0 for a text
kind : Pattern → ℕ
kind (literal w) = 0
kind int = Int
kind string = String
kind name = Identifier
kind float = Float

-- the codes from Int to Float have their own patterns
kinded : ℕ → Pattern → Bool
kinded c p = not (between Int Float c) || eqb (kind p) c

all_kinded : all kinded table ≡ true
unfolding kinded kind table
all_kinded = refl

-- the pattern with such a code
abbrev pattern_of : ℕ → Pattern
pattern_of c = cond (eqb c Int) int (cond (eqb c String) string (cond (eqb c Identifier) name float))

kind_pattern : (p : Pattern) (c : ℕ) → Int ≤ c → kind p ≡ c → p ≡ pattern_of c
unfolding kind
kind_pattern (literal w) c h e = absurd (omega arith)
kind_pattern int c h e = rw (← e)
kind_pattern string c h e = rw (← e)
kind_pattern name c h e = rw (← e)
kind_pattern float c h e = rw (← e)

kind_token : (s : List ℕ) (at code end : ℕ) → token_at_lem s at ≡ Some (raw_token code end) → Int ≤ code → code ≤ Float → (end ≡ at + len (pattern_of code) (drop at s)) × (starts (pattern_of code) (get_or s at 0) ≡ true)
unfolding kinded
kind_token s at code end e h k =
    let m = matched kinded all_kinded s at code end e in
    let r = or_rest (not (between Int Float code)) (eqb (kind m.pattern) code) m.holds (rw (le-leb Int code h, le-leb code Float k)) in
    let p = kind_pattern m.pattern code h (eqb-true (kind m.pattern) code r) in
    (rw p at m.ends, rw p at m.first)

behind_two : (n : ℕ) → 0 < P.behind 1 n → 2 ≤ P.behind 1 n
unfolding P.behind
behind_two zero h = absurd (omega arith)
behind_two (suc n) h = omega arith

-- a string has its two quotes
string_two : (l : List ℕ) → 0 < P.string l → 2 ≤ P.string l
string_two [] h = absurd (omega arith)
string_two (q ∷ l) h = go (is_quote q) h
  where
    go : (u : Bool) → 0 < cond u (P.behind 1 (P.body q false l)) 0 → 2 ≤ cond u (P.behind 1 (P.body q false l)) 0
    go true k = behind_two (P.body q false l) k
    go false k = absurd (omega arith)

-- the tokens that are no fixed text: where each ends, and the byte that it starts with
module _ (s : List ℕ) (at end : ℕ) where
  pub int_token : token_at_lem s at ≡ Some (raw_token Int end) → (end ≡ at + P.int (drop at s)) × ((is_sign_lem (get_or s at 0) || digit (get_or s at 0)) ≡ true)
  int_token e = kind_token s at Int end e (omega arith) (omega arith)

  pub string_token : token_at_lem s at ≡ Some (raw_token String end) → (end ≡ at + P.string (drop at s)) × (is_quote (get_or s at 0) ≡ true)
  string_token e = kind_token s at String end e (omega arith) (omega arith)

  name_kind : token_at_lem s at ≡ Some (raw_token Identifier end) → (end ≡ at + P.name (drop at s)) × (starts name (get_or s at 0) ≡ true)
  name_kind e = kind_token s at Identifier end e (omega arith) (omega arith)

  pub name_token : token_at_lem s at ≡ Some (raw_token Identifier end) → (end ≡ at + P.name (drop at s)) × (begins_name_lem (first_code (drop at s)) ≡ true)
  name_token e =
      let k = (name_kind e).0 in
      let w = (token_within s at Identifier end e).0 in
      (k, (name_begins (drop at s) (omega arith)).1)

  pub name_first : token_at_lem s at ≡ Some (raw_token Identifier end) → starts name (get_or s at 0) ≡ true
  name_first e = (name_kind e).1

  pub float_token : token_at_lem s at ≡ Some (raw_token Float end) → (end ≡ at + P.float (drop at s)) × (digit (get_or s at 0) ≡ true)
  float_token e = kind_token s at Float end e (omega arith) (omega arith)

  pub string_quotes : token_at_lem s at ≡ Some (raw_token String end) → at + 2 ≤ end
  string_quotes e =
      let t = (string_token e).0 in
      let w = (token_within s at String end e).0 in
      omega (arith, string_two (drop at s) (omega arith))

-- one line feed
feed : Pattern → Bool
feed (literal []) = false
feed (literal (a ∷ [])) = eqb a 10
feed (literal (a ∷ b ∷ w)) = false
feed int = false
feed string = false
feed name = false
feed float = false

ended : ℕ → Pattern → Bool
ended c p = not (eqb c Newline) || feed p

all_ended : all ended table ≡ true
unfolding ended feed table
all_ended = refl

feed_first : (p : Pattern) (b : ℕ) → feed p ≡ true → starts p b ≡ true → b ≡ 10
unfolding feed
feed_first (literal []) b f h = absurd (true≢false (sym f))
feed_first (literal (a ∷ [])) b f h = eqb-true b a h ∙ eqb-true a 10 f
feed_first (literal (a ∷ c ∷ w)) b f h = absurd (true≢false (sym f))
feed_first int b f h = absurd (true≢false (sym f))
feed_first string b f h = absurd (true≢false (sym f))
feed_first name b f h = absurd (true≢false (sym f))
feed_first float b f h = absurd (true≢false (sym f))

-- a line feed is a Newline, and a Newline is one line feed
pub newline_at : (s : List ℕ) (at : ℕ) → get_or s at 0 ≡ 10 → token_at_lem s at ≡ Some (raw_token Newline (at + 1))
unfolding table
newline_at s at e = single s at 10 10 (inside s at (omega arith)) e refl Newline refl

pub newline_token : (s : List ℕ) (at end : ℕ) → token_at_lem s at ≡ Some (raw_token Newline end) → (get_or s at 0 ≡ 10) × (end ≡ at + 1)
unfolding ended
newline_token s at end e =
    let m = matched ended all_ended s at Newline end e in
    let b = feed_first m.pattern (get_or s at 0) m.holds m.first in
    let n = newline_at s at b in
    (b, (same_token Newline Newline end (at + 1) (sym e ∙ n)).1)

-- a character over 127 that begins no name starts no token
pub other_character : (s : List ℕ) (at : ℕ) → at < length s → 128 ≤ get_or s at 0 → get_or s at 0 < 256 → begins_name_lem (first_code (drop at s)) ≡ false → token_at_lem s at ≡ None
other_character s at h k l b = non_ascii s at h k l ∙ sym (name_missed s at b)
