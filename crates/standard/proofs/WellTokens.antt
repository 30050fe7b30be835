-- What a name or a literal of a well-formed source says is written well-formed.
-- Assumes nothing.
use mathlib.Core.Path.{◌≡◌, refl, ap, subst}
use mathlib.Core.Bool.{Bool, true, false, cond}
use mathlib.Core.List.{List, []}
use Prim.Native.Nat.{ℕ}
use borrow.Author.Tests.{ne_eqb, eq-eqb}
use lib.Dec.{T, eqb}
use Rattle.grammar.specs.Sets.{mem}
use Rattle.source.specs.Bytes.{part}
use Rattle.token.specs.Code as token
use Rattle.tokens.specs.Token.{Token}
use Rattle.literal.specs.declared.Literal.{Literal}
use Rattle.literal.specs.declared.Literal.TheVariants as L
use Rattle.lexer.proofs.Properties.{bytes_of}
use Rattle.pyhyeon.specs.Symbol.{is_tee, symbol}
use Rattle.pyhyeon.specs.Rules.{literals}
use Rattle.unparse.proofs.Machine.{word_of, literal_of_lem}
use Rattle.standard.proofs.Loads.{worth, load}
use Rattle.standard.specs.Text.{word_text, literal_text}
use Rattle.standard.proofs.Erasing.{sort_of}
use Rattle.standard.proofs.WellFormed.{Well, empty_well, Asked, word_well, literal_well}
use Rattle.standard.proofs.WellLeaves.{WellString}

module _ (s text : List ℕ) (t : Token) (bytes : Well (bytes_of s t)) (strings : WellString text t) where
  pub name_well : t.code ≡ token.Identifier → Well (word_text (word_of (symbol s t)) (load s text t))
  unfolding load
  name_well c = word_well (word_of (symbol s t)) (load s text t) (go (is_tee s t))
    where
      go : (b : Bool) → Well (cond b [] (cond (eqb t.code token.Identifier) (part s t.start t.end) (worth s text t.start t.end t.literal)))
      go true = empty_well
      go false = rw (eq-eqb t.code token.Identifier c) bytes

  -- a literal by its sort
  asked : (l : Literal) → t.literal ≡ l → Asked (sort_of l) (worth s text t.start t.end l)
  asked (L.Bool b) e = tt
  asked (L.Int z) e = tt
  asked (L.String at n) e = strings at n e
  asked (L.Float x) e = bytes
  asked L.None e = tt

  pub literal_well_said : T (mem t.code literals) → literal_of_lem t.code ≡ sort_of t.literal → Well (literal_text (literal_of_lem t.code) (load s text t))
  unfolding load
  literal_well_said m q =
      let n : t.code ≡ token.Identifier → ⊥ = λ h. subst T (ap (λ (c : ℕ). mem c literals) h) m in
      let v : load s text t ≡ worth s text t.start t.end t.literal = rw (ne_eqb t.code token.Identifier n) refl in
      literal_well (literal_of_lem t.code) (load s text t) (rw (v, q) (asked t.literal refl))
