-- `strings::piece_at` meets its contract, by the laws of its four cases.
use mathlib.Core.Path.{◌≡◌, refl, sym, ap, ◌∙◌}
use Prim.Native.Nat.{ℕ, zero, suc, ◌+◌}
use mathlib.Core.List.{◌∷◌}
use native.Mathlib.Omega.{arith}
use lib.ListN.{get_or, drop}
use Rattle.std.specs.Prelude.{Some, None}
use Rattle.std.proofs.lemmas.Option.{none-some, same_Some}
use Rattle.strings.specs.Decoded.{unescape, some_byte, decoded}
use Rattle.strings.proofs.Decoding.{plain, alone, kept, replaced}
use Rattle.strings.proofs.piece_at.Goals as goal
use Rattle.strings.proofs.piece_at.Goals.{then-b-ne92-via-then-b-ne92, then-b-ne92-via-else-b-ne92+then-i-s}

pub returns-then-b-ne92 : goal.returns-then-b-ne92
returns-then-b-ne92 c =
    let s = c.args.s.now in
    let i = c.args.i in
    elim c.then-b-ne92.branch [
      | then-b-ne92-via-then-b-ne92 w ↦ record { decodes = plain s i c.requires w.if-b-ne92.true; no_more = omega arith; within = omega (arith, c.requires) }
      | then-b-ne92-via-else-b-ne92+then-i-s w ↦ record {
        decodes = alone s i w.if-b-ne92.false c.requires (omega (arith, w.if-i-s.true)) ∙ ap (λ (b : ℕ). b ∷ decoded (drop (i + 1) s)) (sym w.if-b-ne92.false);
        no_more = omega arith;
        within = omega (arith, c.requires);
      }
    ]

-- the byte of an escape, and that of none
byte : (n u : ℕ) → some_byte n ≡ Some u → (u ≡ n) × (u ≡ 0 → ⊥)
byte zero u e = absurd (none-some u e)
byte (suc n) u e = let q = same_Some (suc n) u e in (sym q, λ z. omega (arith, q))

none : (n : ℕ) → some_byte n ≡ None → ◌≡◌ {A = ℕ} n 0
none zero e = refl
none (suc n) e = absurd (none-some (suc n) (sym e))

pub returns-in-Some : goal.returns-in-Some
returns-in-Some c =
    let s = c.args.s.now in
    let i = c.args.i in
    let u = byte (unescape (get_or s (i + 1) 0)) c.in-Some.byte (sym c.unescaped.ensures ∙ c.in-Some.is) in
    record { decodes = replaced s i c.if-b-ne92.false (omega (arith, c.if-i-s.false, c.requires)) c.in-Some.byte u.0 u.1; no_more = omega arith; within = omega (arith, c.if-i-s.false, c.requires) }

pub returns-in-None : goal.returns-in-None
returns-in-None c =
    let s = c.args.s.now in
    let i = c.args.i in
    let z = none (unescape (get_or s (i + 1) 0)) (sym c.unescaped.ensures ∙ c.in-None.is) in
    record { decodes = kept s i c.if-b-ne92.false (omega (arith, c.if-i-s.false, c.requires)) z; no_more = omega arith; within = omega (arith, c.if-i-s.false, c.requires) }
