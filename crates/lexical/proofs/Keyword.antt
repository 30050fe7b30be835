-- "at equal length a keyword beats a name": a name that is found is no text of the table.
-- Assumes nothing.
use mathlib.Core.Path.{◌≡◌, refl, sym, subst, ◌∙◌}
use mathlib.Core.Bool.{Bool, true, false, not, true≢false}
use mathlib.Core.List.Memᴰ
use mathlib.Core.List.{List, [], ◌∷◌, ◌++◌, Memᴰ}
use mathlib.Core.Logic.{⊎_elim}
use Prim.Native.Nat.{ℕ}
use native.Mathlib.Omega.{arith}
use lib.Dec.{eqb}
use lib.ListN.{take, drop, take-append-drop}
use Rattle.std.specs.Prelude.{Some}
use Rattle.source.specs.Bytes.{part}
use Rattle.source.proofs.Lists.{part_cons}
use Rattle.token.specs.Code.{Identifier}
use Rattle.raw_token.specs.Table.{raw_token, Pattern, literal, int, string, name, float, Entry, table, token_at_lem}
use Rattle.raw_token.proofs.First.{starts}
use Rattle.raw_token.proofs.Laws.{all, name_first}
use Rattle.lexical.specs.Longest.{Longest, Wins}
use Rattle.lexical.proofs.Longest.{holds, own, own_length, longest_match}

-- the first 19 entries have other codes than a name, and the texts among the others start as no name does
opens : Pattern → Bool
opens (literal []) = false
opens (literal (a ∷ t)) = starts name a
opens int = false
opens string = false
opens name = false
opens float = false

keywords_first : all (λ c p. not (eqb c Identifier)) (take 19 table) ≡ true
unfolding table
keywords_first = refl

others_behind : all (λ c p. not (opens p)) (drop 19 table) ≡ true
unfolding table opens
others_behind = refl

-- what stands among the entries k at the front, of which x is none, stands before x
earlier : (k o b v : List Entry) {x y : Entry} → k ++ o ≡ b ++ x ∷ v → (Memᴰ x k → ⊥) → Memᴰ y k → Memᴰ y b
earlier [] o b v e h m = absurd (Memᴰ.not-nil m)
earlier (z ∷ k) o [] v e h m = absurd (h (Memᴰ.head (cc)))
earlier (z ∷ k) o (a ∷ b) v {x} {y} e h m =
    let t : k ++ o ≡ b ++ x ∷ v = cc in
    let q : z ≡ a = cc in
    ⊎_elim (λ r. Memᴰ.head (r ∙ q)) (λ n. Memᴰ.tail (earlier k o b v t (λ n'. h (Memᴰ.tail n')) n)) (Memᴰ.cases_cons m)

module _ (s : List ℕ) (at end : ℕ) (e : token_at_lem s at ≡ Some (raw_token Identifier end)) (code : ℕ) (t : List ℕ) (is : part s at end ≡ t) where
  win : Longest s at Identifier end
  win = subst (Wins s at) e (longest_match s at)

  no_name : Memᴰ (Identifier, win.pattern) (take 19 table) → ⊥
  no_name m = true≢false (sym (holds (λ c p. not (eqb c Identifier)) (take 19 table) keywords_first (Identifier, win.pattern) m))

  no_keyword : Memᴰ (code, literal t) (take 19 table) → ⊥
  no_keyword m =
      let b = earlier (take 19 table) (drop 19 table) win.before win.after (take-append-drop 19 table ∙ win.entry) no_name m in
      let f = own s at Identifier end win in
      omega (arith, own_length s at Identifier end win, win.first (code, literal t) b (part s at end) (record { word = is; rest = f.rest; is = f.is }))

  no_other_text : Memᴰ (code, literal t) (drop 19 table) → ⊥
  unfolding opens
  no_other_text m =
      let h = holds (λ c p. not (opens p)) (drop 19 table) others_behind (code, literal t) m in
      let k = rw (sym is ∙ part_cons s at end win.some win.within, name_first s at end e) at h in
      true≢false (sym k)

  pub keyword_beats_name : Memᴰ (code, literal t) table → ⊥
  keyword_beats_name m =
      ⊎_elim no_keyword no_other_text (Memᴰ.append_cases (take 19 table) (subst (Memᴰ (code, literal t)) (sym (take-append-drop 19 table)) m))
