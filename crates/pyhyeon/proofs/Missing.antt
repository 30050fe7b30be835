-- 16 is right: where the descent asks for an operand only an expression or operand could stand, and where it asks for anything else something else could. By
-- the laws of grammars (grammar/proofs/Exact.antt), whose tests this one passes.
-- Assumes nothing.
use mathlib.Core.Path.{◌≡◌, refl, subst}
use mathlib.Core.Logic.{⊎_elim}
use mathlib.Core.Bool.{Bool, true, false, cond, not, ◌&&◌, ◌||◌}
use mathlib.Core.List.{List, [], ◌∷◌, ◌++◌, map}
use Prim.Native.Nat.{ℕ}
use lib.Dec.{T, eqb, eqb→eq, eqb_refl, ltb}
use Rattle.grammar.specs.Sets.{mem, within}
use Rattle.grammar.specs.Descent.{null, begins}
use Rattle.grammar.specs.Misfit.{every}
use Rattle.grammar.proofs.Sets.{and_l, and_r, or_l, or_r, or_e, not_e, mem_within}
use Rattle.grammar.proofs.Asking.{Refuses}
use Rattle.grammar.proofs.Wanting.{unseen, exposed, firm, shows, direct, closing}
use Rattle.grammar.proofs.Exact.{asked_stands, only_these, end_stands}
use Rattle.token.specs.Code.{Int, LParen, LBrace, Eof}
use Rattle.tokens.specs.Token.{Token}
use Rattle.pyhyeon.specs.Symbol.{symbol}
use Rattle.pyhyeon.specs.Machine.{blank}
use Rattle.pyhyeon.specs.Action.{machine}
use Rattle.pyhyeon.specs.Rules.{Rule, Program, Line, Simple, Block, Class, E, O, A, C, S, P, U, F, names, plain}
use Rattle.pyhyeon.specs.Tables.{joined, first, follow, rank, first_f, first_e, pyhyeon}
use Rattle.pyhyeon.specs.Missing.{wrong, cut, missing, asks_operand, line_ends, fault_number, fault_of}
use Rattle.pyhyeon.specs.Earliest.{Accepts, OnlyOperand, Numbered, at_end, lacking, other}
use Rattle.pyhyeon.proofs.Language.{language, tightly}
use Rattle.pyhyeon.proofs.Symbols.{symbol_eof}
use Rattle.pyhyeon.proofs.Late.{height, is_code, finishes, token_for, symbol_for, tokens_for, AcceptsSymbols, of_more, to_more}

-- no rule sees a token that is not Eof
blind : (t : ℕ) (l : List ℕ) → eqb t Eof ≡ false → (r : Rule) → T (unseen (t ∷ l) (joined r))
unfolding unseen joined plain
blind t l e Program = rw e tt
blind t l e Line = rw e tt
blind t l e Simple = tt
blind t l e Block = rw e tt
blind t l e Class = tt
blind t l e E = tt
blind t l e O = tt
blind t l e A = tt
blind t l e C = tt
blind t l e S = tt
blind t l e P = tt
blind t l e U = tt
blind t l e F = tt

-- where only what begins an expression is asked for, only that can stand
shown : (r : Rule) → T (shows pyhyeon first_e (joined r))
unfolding shows exposed firm null begins joined plain first
shown Program = tt
shown Line = tt
shown Simple = tt
shown Block = tt
shown Class = tt
shown E = tt
shown O = tt
shown A = tt
shown C = tt
shown S = tt
shown P = tt
shown U = tt
shown F = tt

-- where a name or an opening bracket is asked for by itself, only these can stand, and no Int
narrow : List ℕ
narrow = LParen ∷ LBrace ∷ names

named : (r : Rule) → T (shows pyhyeon narrow (joined r))
unfolding shows exposed firm null begins joined plain first narrow
named Program = tt
named Line = tt
named Simple = tt
named Block = tt
named Class = tt
named E = tt
named O = tt
named A = tt
named C = tt
named S = tt
named P = tt
named U = tt
named F = tt

-- one of the set begins no expression, and is not Eof
stray_in : List ℕ → Bool
stray_in [] = false
stray_in (c ∷ cs) = (not (mem c first_e) && not (eqb c Eof)) || stray_in cs

-- Each set of tokens that can be asked for is of one of these three sorts; but at its end Program, which no rule calls, asks for Eof.
sorted : List ℕ → Bool
sorted set = asks_operand set || (within set narrow || stray_in set)

abbrev within_program : Rule → Bool
within_program r = ltb (rank r) (rank Program)

sortedly : (r : Rule) → T (within_program r) → T (direct pyhyeon sorted within_program false (joined r))
unfolding direct null begins joined plain first rank narrow stray_in sorted
sortedly Program h = absurd h
sortedly Line h = tt
sortedly Simple h = tt
sortedly Block h = tt
sortedly Class h = tt
sortedly E h = tt
sortedly O h = tt
sortedly A h = tt
sortedly C h = tt
sortedly S h = tt
sortedly P h = tt
sortedly U h = tt
sortedly F h = tt

closed : T (closing pyhyeon sorted within_program (follow Program) (joined Program))
unfolding closing direct null begins joined plain first follow rank narrow stray_in sorted
closed = tt

-- what the tests say
is_false : (b : Bool) → (T b → ⊥) → b ≡ false
is_false true f = absurd (f tt)
is_false false f = refl

not_eof : (c : ℕ) → (c ≡ Eof → ⊥) → eqb c Eof ≡ false
not_eof c f = is_false (eqb c Eof) (λ h. f (eqb→eq c Eof h))

stray_of : (set : List ℕ) → T (stray_in set) → (c : ℕ) × T (mem c set) × (T (mem c first_e) → ⊥) × (eqb c Eof ≡ false)
unfolding stray_in
stray_of [] h = absurd h
stray_of (c ∷ cs) h =
    let p : Bool = not (mem c first_e) in
    let q : Bool = not (eqb c Eof) in
    ⊎_elim
    (λ i. (c, or_l (eqb c c) (mem c cs) (eqb_refl c), not_e (mem c first_e) (and_l p q i), is_false (eqb c Eof) (not_e (eqb c Eof) (and_r p q i))))
    (λ i. let (d, m, f, g) = stray_of cs i in (d, or_r (eqb d c) (mem d cs) m, f, g))
    (or_e (p && q) (stray_in cs) h)

-- The descent refuses before a token t that is not Eof, after the tokens w, and asks for one of these. (What the trial accepts does not depend on the tokens that
-- its machine has: none, here.)
module _ (source : List ℕ) (w : List Token) (t : Token) {v asked : List ℕ} (x : Refuses pyhyeon (joined Program) (map (symbol source) w) (symbol source t ∷ v) asked) (ne : t.code ≡ Eof → ⊥) where
  unseeing : (r : Rule) → T (unseen (symbol source t ∷ v) (joined r))
  unseeing r = blind (symbol source t) v (not_eof (symbol source t) (λ e. ne (symbol_eof source t e))) r

  stands : (c : ℕ) → eqb c Eof ≡ false → T (mem c asked) → (l : List ℕ) × T (every is_code l) × AcceptsSymbols source [] (map (symbol source) w ++ (c ∷ l))
  unfolding follow
  stands c g m = asked_stands language is_code height finishes tt tightly x unseeing blank c (blind c [] g) m

  only_of : (X : List ℕ) → ((r : Rule) → T (shows pyhyeon X (joined r))) → T (within asked X) → (u : Token) (l : List Token) → Accepts source (w ++ (u ∷ l)) → T (mem (symbol source u) X)
  unfolding follow
  only_of X shows h u l a = only_these language is_code height finishes tt tightly x unseeing blank X shows h (symbol source u) (map (symbol source) l) (to_more source [] w (u ∷ l) a)

  -- where an operand is asked for, only an expression or operand could stand
  operands : T (asks_operand asked) → OnlyOperand source w
  operands h = record {
    each = λ u _ m. let c : ℕ = symbol source u in
        let (l, i, a) = stands c (not_eof c (λ e. subst (λ (d : ℕ). T (mem d first_f)) e m)) (mem_within c first_f asked (and_l (within first_f asked) (within asked first_e) h) m) in
        (map token_for l, tokens_for l i, of_more source [] w (u ∷ []) l a);
    only = only_of first_e shown (and_r (within first_f asked) (within asked first_e) h);
  }

  module _ (o : OnlyOperand source w) where
    only_symbols : (c : ℕ) (l : List ℕ) → AcceptsSymbols source [] (map (symbol source) w ++ (c ∷ l)) → T (mem c first_e)
    only_symbols c l a = rw (symbol_for source c) at (o.only (token_for c) (map token_for l) (of_more source [] w [] (c ∷ l) a))

    -- an Int can stand, so that more than a name or a bracket is asked for
    not_narrow : T (within asked narrow) → ⊥
    unfolding narrow
    not_narrow n = let (l, i, a) = o.each (token_for Int) tt tt in only_of narrow named n (token_for Int) l a

    not_stray : T (stray_in asked) → ⊥
    not_stray s =
        let (c, m, f, g) = stray_of asked s in
        let (l, i, a) = stands c g m in
        f (only_symbols c l a)

    -- and where only that could stand, one is asked for
    asks : T (asks_operand asked)
    unfolding follow sorted
    asks = ⊎_elim
        (λ h. ⊎_elim (λ i. i) (λ i. absurd (⊎_elim not_narrow not_stray (or_e (within asked narrow) (stray_in asked) i))) (or_e (asks_operand asked) (within asked narrow || stray_in asked) h))
        (λ f. absurd (only_symbols Eof [] (f (Eof ∷ []) (record { holds = tt }))))
        (end_stands language is_code height finishes tt tightly {M = machine source []} x unseeing blank sorted within_program sortedly closed)

-- The number that the descent gives where it refuses before t is that of t.
pub numbered : (source : List ℕ) (w : List Token) (t : Token) {v asked : List ℕ} → Refuses pyhyeon (joined Program) (map (symbol source) w) (symbol source t ∷ v) asked → Numbered source w t (fault_number (fault_of t.code asked))
numbered source w t {asked = asked} x = by (eqb t.code Eof) (mem t.code line_ends) (asks_operand asked) (λ h. eqb→eq t.code Eof h) (λ e. rw e tt) (λ h. h) (λ h. h) (λ h. h) (λ h. h)
  where
    by : (a b c : Bool) → (T a → t.code ≡ Eof) → (t.code ≡ Eof → T a) → (T b → T (mem t.code line_ends)) → (T (mem t.code line_ends) → T b) → (T c → T (asks_operand asked)) → (T (asks_operand asked) → T c) →
        Numbered source w t (fault_number (cond a cut (cond b (cond c missing wrong) wrong)))
    by true b c f f' g g' h h' = at_end (f tt)
    by false true true f f' g g' h h' = lacking (g tt) (operands source w t x f' (h tt))
    by false true false f f' g g' h h' = other f' (λ _ o. h' (asks source w t x f' o))
    by false false c f f' g g' h h' = other f' (λ m _. g' m)
