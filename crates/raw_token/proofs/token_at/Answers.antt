-- `raw_token::token_at` meets its contract: each arm hands over what its function ensures, by the law of its first byte in proofs/First.antt.
use mathlib.Core.Path.{◌≡◌, refl, sym, ap, ◌∙◌}
use mathlib.Core.Bool.{true, false}
use mathlib.Core.Logic.{⊎_elim}
use mathlib.Core.List.{List}
use Prim.Native.Nat.{ℕ, ◌<◌, ◌≤◌, zero-le}
use lib.ListN.{length, get_or}
use Rattle.std.specs.Prelude.{None}
use Rattle.source.specs.Bytes.{digit}
use Rattle.source.proofs.Ranges.{arm}
use Rattle.std.proofs.Common.{arith, rules}
use Rattle.std.proofs.lemmas.Grind.{common_steps}
use Rattle.token.specs.Code as Code
use Rattle.raw_token.specs.Parts.{ascii_begins}
use Rattle.raw_token.specs.Table.{table, token_at_lem}
use Rattle.raw_token.proofs.First as First
use Rattle.raw_token.proofs.token_at.Goals as goal

pub returns-in_err-get : goal.returns-in_err-get
returns-in_err-get c = rw c.from_residual.ensures (sym (First.past_end c.args.s.now c.args.at c.in_err-get.ensures.lookup.3))

pub returns-in-34 : goal.returns-in-34
unfolding table
returns-in-34 c =
    let s = c.args.s.now in
    let at = c.args.at in
    let g = c.in_ok-get.ensures.lookup.3 in
    c.quoted.ensures ∙ sym (⊎_elim (λ e. First.quoted s at 34 34 g.0 (sym (g.1 0) ∙ e) refl refl) (λ e. First.quoted s at 39 39 g.0 (sym (g.1 0) ∙ e) refl refl) c.in-34.is)

pub returns-in-43 : goal.returns-in-43
unfolding table
returns-in-43 c =
    let g = c.in_ok-get.ensures.lookup.3 in
    c.signed.ensures ∙ sym (First.signed c.args.s.now c.args.at 43 43 g.0 (sym (g.1 0) ∙ c.in-43.is) refl Code.Plus refl)

pub returns-in-45 : goal.returns-in-45
unfolding table
returns-in-45 c =
    let g = c.in_ok-get.ensures.lookup.3 in
    c.signed-in-45.ensures ∙ sym (First.signed c.args.s.now c.args.at 45 45 g.0 (sym (g.1 0) ∙ c.in-45.is) refl Code.Minus refl)

pub returns-in-47 : goal.returns-in-47
unfolding table
returns-in-47 c =
    let g = c.in_ok-get.ensures.lookup.3 in
    c.pair.ensures ∙ sym (First.double c.args.s.now c.args.at 47 47 g.0 (sym (g.1 0) ∙ c.in-47.is) refl true 47 Code.SlashSlash Code.Slash refl)

pub returns-in-61 : goal.returns-in-61
unfolding table
returns-in-61 c =
    let g = c.in_ok-get.ensures.lookup.3 in
    c.pair-in-61.ensures ∙ sym (First.double c.args.s.now c.args.at 61 61 g.0 (sym (g.1 0) ∙ c.in-61.is) refl true 61 Code.EqualEqual Code.Equal refl)

pub returns-in-60 : goal.returns-in-60
unfolding table
returns-in-60 c =
    let g = c.in_ok-get.ensures.lookup.3 in
    c.pair-in-60.ensures ∙ sym (First.double c.args.s.now c.args.at 60 60 g.0 (sym (g.1 0) ∙ c.in-60.is) refl false 61 Code.LessEqual Code.Less refl)

pub returns-in-62 : goal.returns-in-62
unfolding table
returns-in-62 c =
    let g = c.in_ok-get.ensures.lookup.3 in
    c.pair-in-62.ensures ∙ sym (First.double c.args.s.now c.args.at 62 62 g.0 (sym (g.1 0) ∙ c.in-62.is) refl false 61 Code.GreaterEqual Code.Greater refl)

pub returns-in-33 : goal.returns-in-33
unfolding table
returns-in-33 c =
    let g = c.in_ok-get.ensures.lookup.3 in
    c.only_pair.ensures ∙ sym (First.only c.args.s.now c.args.at 33 33 g.0 (sym (g.1 0) ∙ c.in-33.is) refl 61 Code.NotEqual refl)

pub returns-in-42 : goal.returns-in-42
unfolding table
returns-in-42 c =
    let g = c.in_ok-get.ensures.lookup.3 in
    c.mark.ensures ∙ sym (First.single c.args.s.now c.args.at 42 42 g.0 (sym (g.1 0) ∙ c.in-42.is) refl Code.Star refl)

pub returns-in-37 : goal.returns-in-37
unfolding table
returns-in-37 c =
    let g = c.in_ok-get.ensures.lookup.3 in
    c.mark-in-37.ensures ∙ sym (First.single c.args.s.now c.args.at 37 37 g.0 (sym (g.1 0) ∙ c.in-37.is) refl Code.Percent refl)

pub returns-in-40 : goal.returns-in-40
unfolding table
returns-in-40 c =
    let g = c.in_ok-get.ensures.lookup.3 in
    c.mark-in-40.ensures ∙ sym (First.single c.args.s.now c.args.at 40 40 g.0 (sym (g.1 0) ∙ c.in-40.is) refl Code.LParen refl)

pub returns-in-41 : goal.returns-in-41
unfolding table
returns-in-41 c =
    let g = c.in_ok-get.ensures.lookup.3 in
    c.mark-in-41.ensures ∙ sym (First.single c.args.s.now c.args.at 41 41 g.0 (sym (g.1 0) ∙ c.in-41.is) refl Code.RParen refl)

pub returns-in-91 : goal.returns-in-91
unfolding table
returns-in-91 c =
    let g = c.in_ok-get.ensures.lookup.3 in
    c.mark-in-91.ensures ∙ sym (First.single c.args.s.now c.args.at 91 91 g.0 (sym (g.1 0) ∙ c.in-91.is) refl Code.LBracket refl)

pub returns-in-93 : goal.returns-in-93
unfolding table
returns-in-93 c =
    let g = c.in_ok-get.ensures.lookup.3 in
    c.mark-in-93.ensures ∙ sym (First.single c.args.s.now c.args.at 93 93 g.0 (sym (g.1 0) ∙ c.in-93.is) refl Code.RBracket refl)

pub returns-in-123 : goal.returns-in-123
unfolding table
returns-in-123 c =
    let g = c.in_ok-get.ensures.lookup.3 in
    c.mark-in-123.ensures ∙ sym (First.single c.args.s.now c.args.at 123 123 g.0 (sym (g.1 0) ∙ c.in-123.is) refl Code.LBrace refl)

pub returns-in-125 : goal.returns-in-125
unfolding table
returns-in-125 c =
    let g = c.in_ok-get.ensures.lookup.3 in
    c.mark-in-125.ensures ∙ sym (First.single c.args.s.now c.args.at 125 125 g.0 (sym (g.1 0) ∙ c.in-125.is) refl Code.RBrace refl)

pub returns-in-58 : goal.returns-in-58
unfolding table
returns-in-58 c =
    let g = c.in_ok-get.ensures.lookup.3 in
    c.mark-in-58.ensures ∙ sym (First.single c.args.s.now c.args.at 58 58 g.0 (sym (g.1 0) ∙ c.in-58.is) refl Code.Colon refl)

pub returns-in-44 : goal.returns-in-44
unfolding table
returns-in-44 c =
    let g = c.in_ok-get.ensures.lookup.3 in
    c.mark-in-44.ensures ∙ sym (First.single c.args.s.now c.args.at 44 44 g.0 (sym (g.1 0) ∙ c.in-44.is) refl Code.Comma refl)

pub returns-in-59 : goal.returns-in-59
unfolding table
returns-in-59 c =
    let g = c.in_ok-get.ensures.lookup.3 in
    c.mark-in-59.ensures ∙ sym (First.single c.args.s.now c.args.at 59 59 g.0 (sym (g.1 0) ∙ c.in-59.is) refl Code.Semicolon refl)

pub returns-in-46 : goal.returns-in-46
unfolding table
returns-in-46 c =
    let g = c.in_ok-get.ensures.lookup.3 in
    c.mark-in-46.ensures ∙ sym (First.single c.args.s.now c.args.at 46 46 g.0 (sym (g.1 0) ∙ c.in-46.is) refl Code.Dot refl)

pub returns-in-10 : goal.returns-in-10
unfolding table
returns-in-10 c =
    let g = c.in_ok-get.ensures.lookup.3 in
    c.mark-in-10.ensures ∙ sym (First.single c.args.s.now c.args.at 10 10 g.0 (sym (g.1 0) ∙ c.in-10.is) refl Code.Newline refl)

pub returns-in-48-to-57 : goal.returns-in-48-to-57
returns-in-48-to-57 c =
    let g = c.in_ok-get.ensures.lookup.3 in
    let h : digit c.in_ok-get.field-0.now ≡ true = grind (arith, common_steps) in
    c.number.ensures ∙ sym (First.number c.args.s.now c.args.at g.0 (ap digit (sym (g.1 0)) ∙ h))

pub returns-in-128-to-255 : goal.returns-in-128-to-255
returns-in-128-to-255 c =
    let g = c.in_ok-get.ensures.lookup.3 in
    let h : 128 ≤ c.in_ok-get.field-0.now = grind (arith, common_steps) in
    c.name.ensures ∙ sym (First.non_ascii c.args.s.now c.args.at g.0 (rw (g.1 0) at h) (c.type_inv.s c.args.at).fits)

-- what starts no token
alike_none : (s : List ℕ) (at b : ℕ) → at < length s → b ≡ get_or s at 0 → First.alike table b 0 ≡ true → None ≡ token_at_lem s at
alike_none s at b h e a = sym (First.nothing s at h (ap (λ (x : ℕ). First.alike table x 0) (sym e) ∙ a))

pub returns-in_default : goal.returns-in_default
unfolding table
returns-in_default c =
    let g = c.in_ok-get.ensures.lookup.3 in
    alike_none c.args.s.now c.args.at _ g.0 (g.1 0) (arm First.keys (λ (x : ℕ). First.alike table x 0) 0 39 tt c.in_ok-get.field-0.now zero-le (search rules) (search rules))

pub returns-in_default-2 : goal.returns-in_default-2
unfolding table
returns-in_default-2 c =
    let g = c.in_ok-get.ensures.lookup.3 in
    alike_none c.args.s.now c.args.at _ g.0 (g.1 0) (arm First.keys (λ (x : ℕ). First.alike table x 0) 58 7 tt c.in_ok-get.field-0.now (search rules) (search rules) (search rules))

pub returns-in_default-3 : goal.returns-in_default-3
unfolding table
returns-in_default-3 c =
    let g = c.in_ok-get.ensures.lookup.3 in
    alike_none c.args.s.now c.args.at _ g.0 (g.1 0) (arm First.keys (λ (x : ℕ). First.alike table x 0) 91 6 tt c.in_ok-get.field-0.now (search rules) (search rules) (search rules))

pub returns-in_default-4 : goal.returns-in_default-4
unfolding table
returns-in_default-4 c =
    let g = c.in_ok-get.ensures.lookup.3 in
    alike_none c.args.s.now c.args.at _ g.0 (g.1 0) (arm First.keys (λ (x : ℕ). First.alike table x 0) 123 5 tt c.in_ok-get.field-0.now (search rules) (search rules) (search rules))

pub returns-in-97-to-122 : goal.returns-in-97-to-122
returns-in-97-to-122 c =
    let g = c.in_ok-get.ensures.lookup.3 in
    let h : ascii_begins c.in_ok-get.field-0.now ≡ true = grind (arith, common_steps) in
    c.word.ensures ∙ sym (First.word c.args.s.now c.args.at g.0 (c.type_inv.s c.args.at).fits (ap ascii_begins (sym (g.1 0)) ∙ h))
