-- The trial goes along with every reading of a part: what the part reads before l, the trial takes, and comes to l.
-- Assumes nothing.
use mathlib.Core.Path.{◌≡◌, refl, subst}
use mathlib.Core.Bool.{false, not}
use mathlib.Core.List.{List, [], ◌∷◌, ◌++◌, append_assoc}
use Prim.Native.Nat.{ℕ, suc, ◌+◌, ◌*◌, ◌<◌}
use native.Mathlib.Omega.{arith}
use lib.Dec.{T, eqb, eqb_refl, ltb→lt}
use lib.ListN.{length}
use Rattle.grammar.specs.Sets.{mem, sees}
use Rattle.grammar.specs.Grammar.{Part, tok, ◌⨾◌}
use Rattle.grammar.specs.Trial.{Machine, St, Out, ok, fail, Parser, and_then, or_else, or_stay, seq_p, alt_p, loop, many_p, skip_p, take_from, take_p, see_p, act_p, tail_p, eval, enough, parse}
use Rattle.grammar.specs.Descent.{Plan, null, begins}
use Rattle.grammar.specs.Check.{next, fits, takes, after, low}
use Rattle.grammar.proofs.Sets.{Sees, and_l, and_r, or_l}
use Rattle.grammar.proofs.Begin.{On, on_ok, on_fail, on_out, Begins, begins_part, unbegun}
use Rattle.grammar.proofs.Agree.{is_if, not_taken}
use Rattle.grammar.proofs.Whole.{Sound, begins_rule}
use Rattle.grammar.proofs.Enough.{Twin, twin_ok, twin_fail, twin_same, Less, twin_loop, twin_part, twin_parse, parse_is}
use Rattle.grammar.proofs.Reading.{Reads, by_skip, by_act, by_tok, by_see, by_call, by_seq, by_left, by_right, many_stop, many_more, tail_stop, tail_last, tail_more}

-- it fits, and leads to the tokens l
pub data Led {Act : Type 0} {M : Machine Act} (l : List ℕ) : Out M → Type 0 where
  led : (k : M.Kept) → Led l (ok (record { rest = l; kept = k }))

module _ {Act : Type 0} {M : Machine Act} where
  pub of_led : {l : List ℕ} {o : Out M} → Led l o → (k : M.Kept) × (o ≡ ok (record { rest = l; kept = k }))
  of_led (led k) = (k, refl)

  led_then : {l l₁ : List ℕ} {o : Out M} (q : Parser M) → Led l₁ o → ((k : M.Kept) → Led l (q (record { rest = l₁; kept = k }))) → Led l (and_then o q)
  unfolding and_then
  led_then q (led k) f = f k

  led_else : {l : List ℕ} {o : Out M} (q : Parser M) (s : St M) → Led l o → Led l (or_else o q s)
  unfolding or_else
  led_else q s (led k) = led k

  -- a token that stands next is taken
  pub took : (c : ℕ) (l : List ℕ) (k : M.Kept) → take_p {M = M} (c ∷ []) (record { rest = c ∷ l; kept = k }) ≡ ok (record { rest = l; kept = M.shift c k })
  unfolding take_p take_from
  took c l k = is_if (mem c (c ∷ [])) (record { rest = l; kept = M.shift c k }) (or_l (eqb c c) false (eqb_refl c))

  failing : {P : St M → Type 0} {o : Out M} → Twin P o o → On (λ _. ⊥) o → o ≡ fail
  failing t (on_ok h) = absurd h
  failing t on_fail = refl
  failing {P} t on_out = elim t [ ]

  less_of : {m : ℕ} {s s₁ : St M} {o o' : Out M} → Twin (Less m s) o o' → o ≡ ok s₁ → Less m s s₁
  less_of {m} {s} {s₁} (twin_ok {s = s₂} h) e = let z : s₂ ≡ s₁ = cc in subst (λ (x : St M). Less m s x) z h
  less_of twin_fail e = absurd (let z : ◌≡◌ {A = ℕ} 0 1 = cc in omega arith)

  module _ {R : Type 0} (G : Plan Act R) (good : (r : R) → Sound G r) where
    -- the trial of a part of the rules that the descent takes
    abbrev pub take_on : Part Act R → Parser M
    take_on p = eval (parse G.body) p

    -- it answers, and takes as many tokens as its table says
    pub part_answers : (p : Part Act R) (m : ℕ) (s : St M) → T (low G 100 m p) → Twin (Less (takes G.least p) s) (take_on p s) (take_on p s)
    part_answers p m s t = twin_part G (length s.rest * 100 + m) (λ r s₁ _. twin_parse G good r s₁) p m s t (omega arith)

    pub begins_parse : (r : R) → Begins (G.first r) false (parse {M = M} G.body r)
    unfolding parse
    begins_parse r = record { at = λ s. (begins_rule G good (enough s) r).at s }

    -- where no token stands next that can begin it, it fails
    pub unfit : (p : Part Act R) (m : ℕ) (s : St M) → T (not (null p)) → T (low G 100 m p) → (Sees (begins G.first p) s.rest → ⊥) → take_on p s ≡ fail
    unfit p m s n t f = failing (part_answers p m s t) (unbegun (begins_part G.first begins_parse p) n s f)

    -- once round, and what is repeated goes on from there: no count is left
    pub again : (p : Part Act R) (m : ℕ) (s s₁ : St M) → T (low G 100 m p) → 0 < takes G.least p → take_on p s ≡ ok s₁ → many_p (take_on p) s ≡ many_p (take_on p) s₁
    unfolding many_p loop or_stay
    again p m s s₁ t pos e =
        let h : Less (takes G.least p) s s₁ = less_of (part_answers p m s t) e in
        rw e (twin_same (twin_loop (length s₁.rest) (length s.rest) (suc (length s₁.rest)) pos (λ s₂ _. part_answers p m s₂ t) s₁ (omega arith) (omega arith) (omega arith)))

    -- the rest of a list: no separator, one that is the last, or one and a member
    tail_none : (c : ℕ) (p : Parser M) (s : St M) → take_p (c ∷ []) s ≡ fail → tail_p c p s ≡ ok s
    unfolding tail_p seq_p alt_p many_p loop or_stay and_then or_else skip_p
    tail_none c p s e = rw (e, e) refl

    pub tail_one : (c : ℕ) (p : Parser M) (s s₁ : St M) → take_p (c ∷ []) s ≡ ok s₁ → p s₁ ≡ fail → tail_p c p s ≡ ok s₁
    unfolding tail_p seq_p alt_p many_p loop or_stay and_then or_else skip_p
    tail_one c p s s₁ e f = rw (e, f, e) refl

    pub tail_again : (c : ℕ) (p : Part Act R) (s s₁ s₂ : St M) → T (low G 100 100 p) → take_p (c ∷ []) s ≡ ok s₁ → take_on p s₁ ≡ ok s₂ → tail_p c (take_on p) s ≡ tail_p c (take_on p) s₂
    unfolding tail_p seq_p eval takes low and_then
    tail_again c p s s₁ s₂ t e f =
        let h : take_on (tok (c ∷ []) ⨾ p) s ≡ ok s₂ = rw e f in
        rw (again (tok (c ∷ []) ⨾ p) 0 s s₂ t (omega arith) h) refl

    -- a part, by its reading
    pub reads_led : {p : Part Act R} {w l : List ℕ} (K : List ℕ) (m : ℕ) → T (fits G K p) → T (low G 100 m p) → Reads G p w l → (k : M.Kept) → Led l (take_on p (record { rest = w ++ l; kept = k }))
    unfolding eval fits low takes skip_p act_p take_p take_from see_p seq_p and_then alt_p or_else tail_p many_p loop or_stay
    reads_led K m t u by_skip k = led k
    reads_led K m t u (by_act {a}) k = led (M.run a k)
    reads_led K m t u (by_tok {set} {t = c} {l} h) k = rw (is_if {M = M} (mem c set) (record { rest = l; kept = M.shift c k }) h) (led (M.shift c k))
    reads_led K m t u (by_see {set} {l} h) k = rw (is_if {M = M} (sees set l) (record { rest = l; kept = k }) h.holds) (led k)
    reads_led K m t u (by_call {r} {w} {l} x) k = rw (parse_is {M = M} G good r (record { rest = w ++ l; kept = k })) (reads_led (G.follow r) (G.rank r) (good r).decided (good r).lower x k)
    reads_led K m t u (by_seq {p} {q} {v} {w} {l} x y) k =
        rw (append_assoc v w l) (led_then (take_on q) (reads_led (next G.first q K) m (search and_l) (search and_l) x k)
        (λ k₁. reads_led K (after 100 (takes G.least p) m) (search (and_l, and_r)) (search (and_l, and_r)) y k₁))
    reads_led K m t u (by_left {p} {q} {w} {l} x) k = led_else (take_on q) (record { rest = w ++ l; kept = k }) (reads_led K m (search (and_l, and_r)) (search and_l) x k)
    reads_led K m t u (by_right {p} {q} {w} {l} f x) k =
        rw (unfit p m (record { rest = w ++ l; kept = k }) (search (and_l, and_r)) (search and_l) f) (reads_led K m (search (and_l, and_r)) (search (and_l, and_r)) x k)
    reads_led K m t u (many_stop {p} {l} f) k = rw (unfit p m (record { rest = l; kept = k }) (search (and_l, and_r)) (search (and_l, and_r)) f) (led k)
    reads_led K m t u (many_more {p} {v} {w} {l} x y) k =
        let (k₁, e) = of_led (reads_led (begins G.first p ++ K) m (search (and_l, and_r)) (search (and_l, and_r)) x k) in
        rw (append_assoc v w l, again p m (record { rest = v ++ (w ++ l); kept = k }) (record { rest = w ++ l; kept = k₁ }) (search (and_l, and_r)) (ltb→lt 0 (takes G.least p) (search and_l)) e)
        (reads_led K m t u y k₁)
    reads_led K m t u (tail_stop {c} {p} {l} f) k = rw (tail_none c (take_on p) (record { rest = l; kept = k }) (not_taken (c ∷ []) (record { rest = l; kept = k }) f)) (led k)
    reads_led K m t u (tail_last {c} {p} {l} f) k =
        rw (tail_one c (take_on p) (record { rest = c ∷ l; kept = k }) (record { rest = l; kept = M.shift c k }) (took c l k)
        (unfit p 100 (record { rest = l; kept = M.shift c k }) (search (and_l, and_r)) u f)) (led (M.shift c k))
    reads_led K m t u (tail_more {c} {p} {v} {w} {l} x y) k =
        let (k₁, e) = of_led (reads_led (c ∷ K) 100 (search (and_l, and_r)) u x (M.shift c k)) in
        rw (append_assoc v w l, tail_again c p (record { rest = c ∷ (v ++ (w ++ l)); kept = k }) (record { rest = v ++ (w ++ l); kept = M.shift c k }) (record { rest = w ++ l; kept = k₁ }) u (took c (v ++ (w ++ l)) k) e)
        (reads_led K m t u y k₁)
