-- Leaves and fixed texts are read as what they were written for.
-- Assumes nothing.
use mathlib.Core.Path.{◌≡◌, refl, ap, sym, ◌∙◌}
use mathlib.Core.Bool.{true}
use mathlib.Core.List.{List, [], ◌∷◌}
use Prim.Native.Nat.{ℕ, suc, ◌+◌, ◌-◌}
use native.Mathlib.Omega.{arith}
use borrow.Author.Tests.{eq-eqb, ne_eqb}
use lib.ListN.{length, get_or, drop}
use lib.Seq.{get_or-drop, get_or-take}
use Rattle.source.specs.Bytes.{part}
use Rattle.source.specs.Text.{bytes}
use Rattle.token.specs.Code as token
use Rattle.literal.specs.declared.Literal.TheVariants as L
use Rattle.pyhyeon.specs.Symbol.{Tee}
use Rattle.raw_token.specs.Table.{name}
use Rattle.raw_token.proofs.First.{starts}
use Rattle.unparse.specs.Trees.{Word, Load, word_code}
use Rattle.rendered.proofs.Lexeme.{is_fixed}
use Rattle.rendered.specs.Spelled.{spelled_fixed}
use Rattle.rendered.proofs.LineSteps.{Starts}
use Rattle.rendered.proofs.Inked.{Inked, inked}
use Rattle.rendered.proofs.Lexemes.{fixed_reads, fixed_other, tee_reads}
use Rattle.standard.proofs.Loads.{load}
use Rattle.standard.specs.Text.{word_text}
use Rattle.standard.proofs.Signs.{Sign, sign, plain}
use Rattle.standard.proofs.Scanning.{Spelt}

-- a name is read as itself, and begins as names do
abbrev pub SpeltName : Word → Load → Type 0
SpeltName w l = Spelt (word_text w l) (sign (word_code w) l) × (starts name (get_or (word_text w l) 0 0) ≡ true)

-- a token's bytes begin with one that no gap begins with
pub spelt_starts : {w : List ℕ} {g : Sign} → Spelt w g → Starts w
spelt_starts {w} s = go w (inked s.code w s.reads.lexeme s.reads.no_feed)
  where
    go : (w : List ℕ) → Inked (get_or w 0 0) → Starts w
    go [] i = absurd (omega (arith, i.low))
    go (b ∷ l) i = record { byte = b; rest = l; is = refl; inked = i }

pub fixed_spelt : (c : ℕ) → is_fixed c ≡ true → Spelt (spelled_fixed c) (plain c)
unfolding load
fixed_spelt c e = record {
  code = c;
  literal = λ used. L.None;
  text = [];
  reads = fixed_reads c e;
  says = λ s before after at p h. rw (ne_eqb c token.Identifier (fixed_other c token.Identifier e refl)) refl;
}

-- the byte at a place, by the bytes from there on
byte_of : (s : List ℕ) (at b : ℕ) (w : List ℕ) → part s at (at + length (b ∷ w)) ≡ b ∷ w → get_or s at 0 ≡ b
byte_of s at b w e =
    let n : at + length (b ∷ w) - at ≡ suc (length w) = omega arith in
    let z : at + 0 ≡ at = omega arith in
    ap (λ (i : ℕ). get_or s i 0) (sym z) ∙ sym (get_or-drop at s 0 0) ∙ sym (get_or-take (at + length (b ∷ w) - at) (drop at s) 0 0 (omega arith)) ∙ ap (λ (l : List ℕ). get_or l 0 0) e

-- the name `t`
pub tee_spelt : Spelt (bytes "t") (plain Tee)
unfolding load
tee_spelt = record {
  code = token.Identifier;
  literal = λ used. L.None;
  text = [];
  reads = tee_reads;
  says = λ s before after at p h. rw (eq-eqb (at + 1) (at + 1) refl, byte_of s at 116 [] p) refl;
}
