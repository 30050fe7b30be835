-- A lexeme stays a token where bytes follow that may: nothing lengthens a byte that is a token by itself, nor a string.
-- Assumes nothing.
use mathlib.Core.Path.{◌≡◌, refl, sym, ap, ◌∙◌}
use mathlib.Core.Bool.{Bool, true, false, cond, not, ◌||◌, true≢false}
use mathlib.Core.List.{List, [], ◌∷◌, ◌++◌}
use Prim.Native.Nat.{ℕ, zero, suc, ◌<◌, suc-le-suc, zero-le}
use native.Mathlib.Omega.{arith}
use lib.Dec.{eqb}
use lib.ListN.{length}
use borrow.Author.Tests.{eqb-true, not-true}
use Rattle.std.specs.Prelude.{Some}
use Rattle.source.proofs.Bools.{and_left, and_right, or_either}
use Rattle.source.proofs.Ranges.{is_in}
use Rattle.token.specs.Code as Code
use Rattle.raw_token.specs.Pattern as P
use Rattle.raw_token.specs.Pattern.{is_quote, behind, body}
use Rattle.raw_token.specs.Table.{raw_token, Pattern, literal, int, string, name, float, len, Entry, table, longer, longest, found, token_at_lem}
use Rattle.raw_token.specs.Parts.{string_at}
use Rattle.raw_token.proofs.Words.{all_in}
use Rattle.raw_token.proofs.First.{starts, miss, alike, keep, quoted, past_end}
use Rattle.raw_token.proofs.Within.{found_best}
use Rattle.raw_token.proofs.Laws.{all}
use Rattle.rendered.proofs.Lexeme.{Lexeme, apart, marks, sealed, parted}
use Rattle.rendered.proofs.Apart.{apart_stays}

-- ---- a byte that is a token whatever follows

is_one_lem : Pattern → Bool
is_one_lem (literal []) = false
is_one_lem (literal (a ∷ [])) = true
is_one_lem (literal (a ∷ d ∷ w)) = false
is_one_lem int = false
is_one_lem string = false
is_one_lem name = false
is_one_lem float = false

-- what starts with b is one byte
single : ℕ → ℕ → Pattern → Bool
single b c p = is_one_lem p || not (starts p b)

one_len : (p : Pattern) (b : ℕ) (l r : List ℕ) → is_one_lem p ≡ true → len p (b ∷ l) ≡ len p (b ∷ r)
unfolding is_one_lem P.literal
one_len (literal []) b l r t = absurd (true≢false (sym t))
one_len (literal (a ∷ [])) b l r t = refl
one_len (literal (a ∷ d ∷ w)) b l r t = absurd (true≢false (sym t))
one_len int b l r t = absurd (true≢false (sym t))
one_len string b l r t = absurd (true≢false (sym t))
one_len name b l r t = absurd (true≢false (sym t))
one_len float b l r t = absurd (true≢false (sym t))

len_single : (p : Pattern) (b c : ℕ) (l r : List ℕ) → single b c p ≡ true → len p (b ∷ l) ≡ len p (b ∷ r)
unfolding single
len_single p b c l r =
    or_either (is_one_lem p) (not (starts p b)) (one_len p b l r) (λ t. let n = not-true (starts p b) t in miss p b l n ∙ sym (miss p b r n))

longest_single : (es : List Entry) (best : ℕ × ℕ) (b : ℕ) (l r : List ℕ) → all (single b) es ≡ true → longest best es (b ∷ l) ≡ longest best es (b ∷ r)
longest_single [] best b l r t = refl
longest_single (e ∷ es) best b l r t =
    rw (len_single e.1 b e.0 l r (and_left (single b e.0 e.1) (all (single b) es) t))
    (longest_single es (longer best e.0 (len e.1 (b ∷ r))) b l r (and_right (single b e.0 e.1) (all (single b) es) t))

-- a test that holds of each byte of a list
each_in : (p : ℕ → Bool) (ks : List ℕ) (b : ℕ) → is_in ks b ≡ true → all_in p ks ≡ true → p b ≡ true
each_in p [] b e t = absurd (true≢false (sym e))
each_in p (k ∷ ks) b e t =
    or_either (eqb b k) (is_in ks b) (λ h. ap p (eqb-true b k h) ∙ and_left (p k) (all_in p ks) t) (λ h. each_in p ks b h (and_right (p k) (all_in p ks) t)) e

all_single : (b : ℕ) → sealed b ≡ true → all (single b) table ≡ true
unfolding single is_one_lem table
all_single b e = each_in (λ (x : ℕ). all (single x) table) marks b e refl

sealed_stays : (b : ℕ) (l r : List ℕ) → sealed b ≡ true → token_at_lem (b ∷ l) 0 ≡ token_at_lem (b ∷ r) 0
unfolding token_at_lem
sealed_stays b l r e = ap (found 0) (longest_single table (0, 0) b l r (all_single b e))

-- ---- strings

behind_pos : (k n : ℕ) → 0 < behind k n → 0 < n
unfolding behind
behind_pos k zero h = h
behind_pos k (suc n) h = suc-le-suc zero-le

body_stays : (q : ℕ) (t : Bool) (l r : List ℕ) → 0 < body q t l → body q t (l ++ r) ≡ body q t l
body_stays q true [] r h = absurd (omega arith)
body_stays q false [] r h = absurd (omega arith)
body_stays q true (b ∷ l) r h = go (eqb b 10) h (body_stays q false l r)
  where
    go : (u : Bool) → 0 < cond u 0 (behind 1 (body q false l)) → (0 < body q false l → body q false (l ++ r) ≡ body q false l) → cond u 0 (behind 1 (body q false (l ++ r))) ≡ cond u 0 (behind 1 (body q false l))
    go true k f = refl
    go false k f = ap (behind 1) (f (behind_pos 1 (body q false l) k))
body_stays q false (b ∷ l) r h = go (eqb b q) h (body_stays q (eqb b 92) l r)
  where
    go : (u : Bool) → 0 < cond u 1 (behind 1 (body q (eqb b 92) l)) → (0 < body q (eqb b 92) l → body q (eqb b 92) (l ++ r) ≡ body q (eqb b 92) l) → cond u 1 (behind 1 (body q (eqb b 92) (l ++ r))) ≡ cond u 1 (behind 1 (body q (eqb b 92) l))
    go true k f = refl
    go false k f = ap (behind 1) (f (behind_pos 1 (body q (eqb b 92) l) k))

string_stays : (b : ℕ) (l r : List ℕ) → 0 < P.string (b ∷ l) → P.string (b ∷ (l ++ r)) ≡ P.string (b ∷ l)
string_stays b l r h = go (is_quote b) h
  where
    go : (u : Bool) → 0 < cond u (behind 1 (body b false l)) 0 → cond u (behind 1 (body b false (l ++ r))) 0 ≡ cond u (behind 1 (body b false l)) 0
    go true k = ap (behind 1) (body_stays b false l r (behind_pos 1 (body b false l) k))
    go false k = refl

alike_34 : alike table 34 34 ≡ true
unfolding table
alike_34 = refl

alike_39 : alike table 39 39 ≡ true
unfolding table
alike_39 = refl

keep_34 : keep table 34 ≡ (Code.String, string) ∷ []
unfolding table
keep_34 = refl

keep_39 : keep table 39 ≡ (Code.String, string) ∷ []
unfolding table
keep_39 = refl

pub quote_token : (b : ℕ) (l : List ℕ) → is_quote b ≡ true → token_at_lem (b ∷ l) 0 ≡ string_at (b ∷ l) 0
quote_token b l =
    or_either (eqb b 34) (eqb b 39)
    (λ e. quoted (b ∷ l) 0 34 34 (suc-le-suc zero-le) (eqb-true b 34 e) alike_34 keep_34)
    (λ e. quoted (b ∷ l) 0 39 39 (suc-le-suc zero-le) (eqb-true b 39 e) alike_39 keep_39)

quote_stays : (b : ℕ) (l r : List ℕ) (code end : ℕ) → is_quote b ≡ true → token_at_lem (b ∷ l) 0 ≡ Some (raw_token code end) → token_at_lem (b ∷ (l ++ r)) 0 ≡ Some (raw_token code end)
unfolding string_at
quote_stays b l r code end q e =
    let f = sym (quote_token b l q) ∙ e in
    let some = (found_best 0 (Code.String, P.string (b ∷ l)) code end f).some in
    quote_token b (l ++ r) q ∙ ap (λ (n : ℕ). found 0 (Code.String, n)) (string_stays b l r some) ∙ f

-- ---- any lexeme

pub stays : (code : ℕ) (w r : List ℕ) → Lexeme code w → parted w r ≡ true → token_at_lem (w ++ r) 0 ≡ Some (raw_token code (length w))
stays code [] r e t =
    let f = past_end [] 0 zero-le in
    let z : ◌≡◌ {A = ℕ} 0 1 = cc in
    absurd (omega arith)
stays code (b ∷ l) r e t = go (sealed b) refl (is_quote b) refl t
  where
    go : (u : Bool) → sealed b ≡ u → (v : Bool) → is_quote b ≡ v → ((u || v) || apart r) ≡ true → token_at_lem (b ∷ (l ++ r)) 0 ≡ Some (raw_token code (suc (length l)))
    go true h v k a = sealed_stays b (l ++ r) l h ∙ e
    go false h true k a = quote_stays b l r code (suc (length l)) k e
    go false h false k a = apart_stays b l r k a ∙ e
