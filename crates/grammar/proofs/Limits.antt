-- The limits, of every grammar whose tables pass the test: for a rule, for a part of one, and for a whole input.
-- Assumes nothing.
use mathlib.Core.Path.{◌≡◌}
use Prim.Native.Nat.{ℕ, suc, ◌+◌, ◌*◌, ◌≤◌, ◌<◌}
use native.Mathlib.Omega.{arith}
use lib.Dec.{T, leb→le}
use Rattle.grammar.specs.Grammar.{Part}
use Rattle.grammar.specs.Trial.{Machine, St, enough}
use Rattle.grammar.specs.Descent.{Plan, walk, descend}
use Rattle.grammar.specs.Check.{takes, after, low}
use Rattle.grammar.specs.Limits.{Prices, Meter, before, ahead, worth, clean, credit, afford, spare, modest}
use Rattle.grammar.proofs.Ends.{Ends, ends_map, ends_both}
use Rattle.grammar.proofs.Progress.{Modest, measured, Went, went_part, rule_went}
use Rattle.grammar.proofs.Openings.{come_all, come_some, come_none, after_is, after_all, ahead_most, opens_part, rule_opens}
use Rattle.grammar.proofs.Nodes.{wrote_part, rule_wrote}

times : (w a b k : ℕ) → a + b ≡ k → w * a + w * b ≡ w * k
times w a b k e = rw (← e) (omega arith)

module _ {Act R : Type 0} (G : Plan Act R) (Q : Prices Act R) (frugal : (r : R) → T (modest G Q r)) where
  fit : (r : R) → Modest G Q r
  fit r = measured G Q r (frugal r)

  module _ {M : Machine Act} where
    -- a rule opens itself, and no more than may be opened on its tokens
    pub descend_opens : (N room : ℕ) (r : R) (n : ℕ) (s : St M) → n + 1 + ahead Q (G.rank r) s ≤ N →
        Ends (λ n' s'. n' + ahead Q (after Q.width (G.least r) (G.rank r)) s' ≤ N) (λ n' s'. n' + ahead Q 0 s' ≤ N) (descend G room r n s)
    unfolding descend
    descend_opens N room r n s h = rule_opens G Q fit N (enough s) room r n s h

    -- so does a part
    pub walk_opens : (N room m : ℕ) (p : Part Act R) → T (low G Q.width m p) → T (clean G Q.eof p) → m ≤ Q.width → (n : ℕ) (s : St M) → n + ahead Q m s ≤ N →
        Ends (λ n' s'. n' + ahead Q (after Q.width (takes G.least p) m) s' ≤ N) (λ n' s'. n' + ahead Q 0 s' ≤ N) (walk G.first (descend G room) p n s)
    walk_opens N room m p l t le n s h = opens_part G Q N (λ r n₁ s₁ i. descend_opens N room r n₁ s₁ i) p m l t le n s h

    module _ (Z : Meter M Q.writes) where
      -- a rule takes as many tokens as its table says, and never the end
      pub descend_went : (room : ℕ) (r : R) (n : ℕ) (s : St M) → Ends (λ _ s'. Went Z Q.eof (G.least r) s s') (λ _ s'. Went Z Q.eof 0 s s') (descend G room r n s)
      unfolding descend
      descend_went room r n s = rule_went G Q Z fit (enough s) room r n s

      pub walk_went : (room : ℕ) (p : Part Act R) → T (clean G Q.eof p) → (n : ℕ) (s : St M) →
          Ends (λ _ s'. Went Z Q.eof (takes G.least p) s s') (λ _ s'. Went Z Q.eof 0 s s') (walk G.first (descend G room) p n s)
      walk_went room p t n s = went_part Z Q.eof G (λ r n₁ s₁. descend_went room r n₁ s₁) p t n s

      -- a rule writes no more than its tokens pay for, with what it needs, less what it gives
      pub descend_wrote : (N room : ℕ) (r : R) (n : ℕ) (s : St M) → worth Q Z s + Q.needs r ≤ N →
          Ends (λ _ s'. worth Q Z s' + Q.gives r ≤ N) (λ _ s'. worth Q Z s' + spare Q (Q.needs r) (G.body r) ≤ N) (descend G room r n s)
      unfolding descend
      descend_wrote N room r n s h = rule_wrote G Q Z fit (enough s) room N r n s h

      pub walk_wrote : (N room c : ℕ) (p : Part Act R) → T (afford Q c p) → T (clean G Q.eof p) → (n : ℕ) (s : St M) → worth Q Z s + c ≤ N →
          Ends (λ _ s'. worth Q Z s' + credit Q c p ≤ N) (λ _ s'. worth Q Z s' + spare Q c p ≤ N) (walk G.first (descend G room) p n s)
      walk_wrote N room c p a t n s h =
          wrote_part G Q Z (λ N₁ r n₁ s₁ i. ends_map (λ n₂ s₂ j. j) (λ n₂ s₂ j. omega arith) (descend_wrote N₁ room r n₁ s₁ i)) N p c a t n s h

      -- The same in the words of code, which has the number of the next token (`place`) and the two counts: what a rule adds to them,
      -- by the tokens that it takes. Where it is come through, it adds less than they allow: its height (`rank` and one) of the width of one token, and `gives`.
      pub record Came (r : R) (n : ℕ) (s : St M) (n' : ℕ) (s' : St M) : Type 0 where
        pub sum : Z.place s'.kept + before Q.eof s'.rest ≡ Z.place s.kept + before Q.eof s.rest
        pub on : Z.place s.kept + G.least r ≤ Z.place s'.kept
        pub opened : n' + Q.width * Z.place s.kept + Q.width ≤ n + suc (G.rank r) + Q.width * Z.place s'.kept
        pub written : Z.nodes s'.kept + Q.gives r + Q.pay * Z.place s.kept ≤ Z.nodes s.kept + Q.needs r + Q.pay * Z.place s'.kept

      -- Where it is refused, rules may be open on the token at hand, if it is not the end.
      pub record Fell (r : R) (n : ℕ) (s : St M) (n' : ℕ) (s' : St M) : Type 0 where
        pub sum : Z.place s'.kept + before Q.eof s'.rest ≡ Z.place s.kept + before Q.eof s.rest
        pub on : Z.place s.kept ≤ Z.place s'.kept
        pub opened : n' + Q.width ≤ n + suc (G.rank r) + Q.width * before Q.eof s.rest
        pub here : n' + Q.width * Z.place s.kept ≤ n + suc (G.rank r) + Q.width * Z.place s'.kept
        pub written : Z.nodes s'.kept + Q.pay * Z.place s.kept ≤ Z.nodes s.kept + Q.needs r + Q.pay * Z.place s'.kept

      -- so for a rule that is called on a token before the end
      pub descend_counts : (room : ℕ) (r : R) (n : ℕ) (s : St M) → 0 < G.least r → 0 < before Q.eof s.rest → Ends (Came r n s) (Fell r n s) (descend G room r n s)
      unfolding worth ahead
      descend_counts room r n s pos seen =
          let w : ℕ = Q.width in
          let p : ℕ = Z.place s.kept in
          let b : ℕ = before Q.eof s.rest in
          ends_map
          (λ n₁ s₁ e.
          let p₁ : ℕ = Z.place s₁.kept in
          let b₁ : ℕ = before Q.eof s₁.rest in
          let sum₁ : p₁ + b₁ ≡ p + b = e.0.0.sum in
          let all : n₁ + ahead Q w s₁ ≤ n + 1 + ahead Q (G.rank r) s = rw (after_is w (G.least r) (G.rank r) pos) at e.0.1 in
          record {
            sum = sum₁;
            on = omega arith;
            opened = omega (arith, come_all w b₁, come_some w (G.rank r) b seen, times w p₁ b₁ (p + b) sum₁);
            written = omega (arith, times Q.pay p₁ b₁ (p + b) sum₁);
          })
          (λ n₁ s₁ e.
          let p₁ : ℕ = Z.place s₁.kept in
          let b₁ : ℕ = before Q.eof s₁.rest in
          let sum₁ : p₁ + b₁ ≡ p + b = e.0.0.sum in
          record {
            sum = sum₁;
            on = omega arith;
            opened = omega (arith, come_some w (G.rank r) b seen);
            here = omega (arith, come_some w (G.rank r) b seen, come_none w b₁, times w p₁ b₁ (p + b) sum₁);
            written = omega (arith, times Q.pay p₁ b₁ (p + b) sum₁);
          })
          (ends_both (ends_both (descend_went room r n s) (descend_opens (n + 1 + ahead Q (G.rank r) s) room r n s (omega arith)))
          (descend_wrote (worth Q Z s + Q.needs r) room r n s (omega arith)))

      -- And for a part, which a function of the code may have for itself: with at most m rules opened on the token at hand, and the credit c.
      pub record Passed (p : Part Act R) (m c n : ℕ) (s : St M) (n' : ℕ) (s' : St M) : Type 0 where
        pub sum : Z.place s'.kept + before Q.eof s'.rest ≡ Z.place s.kept + before Q.eof s.rest
        pub on : Z.place s.kept + takes G.least p ≤ Z.place s'.kept
        pub opened : n' + Q.width * Z.place s.kept + Q.width ≤ n + m + Q.width * Z.place s'.kept
        pub written : Z.nodes s'.kept + credit Q c p + Q.pay * Z.place s.kept ≤ Z.nodes s.kept + c + Q.pay * Z.place s'.kept

      pub record Stopped (p : Part Act R) (m c n : ℕ) (s : St M) (n' : ℕ) (s' : St M) : Type 0 where
        pub sum : Z.place s'.kept + before Q.eof s'.rest ≡ Z.place s.kept + before Q.eof s.rest
        pub on : Z.place s.kept ≤ Z.place s'.kept
        pub opened : n' + Q.width ≤ n + m + Q.width * before Q.eof s.rest
        pub here : n' + Q.width * Z.place s.kept ≤ n + m + Q.width * Z.place s'.kept
        pub written : Z.nodes s'.kept + spare Q c p + Q.pay * Z.place s.kept ≤ Z.nodes s.kept + c + Q.pay * Z.place s'.kept

      -- The token at hand may be one on which rules are open: then the part takes a token, and is called on one before the end.
      -- Or no rule is open on it, as after a token: then nothing is asked.
      pub data Stands (p : Part Act R) : ℕ → St M → Type 0 where
        on_token : {m : ℕ} {s : St M} → m ≤ Q.width → 0 < takes G.least p → 0 < before Q.eof s.rest → Stands p m s
        fresh : {s : St M} → Stands p Q.width s

      few : {p : Part Act R} {m : ℕ} {s : St M} → Stands p m s → m ≤ Q.width
      few (on_token le pos seen) = le
      few fresh = omega arith

      -- what may be opened from here on, and what is left after the part
      from_here : {p : Part Act R} {m : ℕ} {s : St M} → Stands p m s → ahead Q m s + Q.width ≡ m + Q.width * before Q.eof s.rest
      unfolding ahead
      from_here {m} {s} (on_token le pos seen) = come_some Q.width m (before Q.eof s.rest) seen
      from_here {s} fresh = omega (arith, come_all Q.width (before Q.eof s.rest))

      left_after : {p : Part Act R} {m : ℕ} {s : St M} (s₁ : St M) → Stands p m s → ahead Q (after Q.width (takes G.least p) m) s₁ ≡ Q.width * before Q.eof s₁.rest
      unfolding ahead
      left_after {p} {m} s₁ (on_token le pos seen) = rw (after_is Q.width (takes G.least p) m pos) (come_all Q.width (before Q.eof s₁.rest))
      left_after {p} s₁ fresh = rw (after_all Q.width (takes G.least p)) (come_all Q.width (before Q.eof s₁.rest))

      pub walk_counts : (room : ℕ) (p : Part Act R) (m c n : ℕ) (s : St M) → T (clean G Q.eof p) → T (low G Q.width m p) → T (afford Q c p) → Stands p m s →
          Ends (Passed p m c n s) (Stopped p m c n s) (walk G.first (descend G room) p n s)
      unfolding worth ahead
      walk_counts room p m c n s t l a st =
          let i : ℕ = Z.place s.kept in
          let b : ℕ = before Q.eof s.rest in
          ends_map
          (λ n₁ s₁ e.
          let i₁ : ℕ = Z.place s₁.kept in
          let b₁ : ℕ = before Q.eof s₁.rest in
          let sum₁ : i₁ + b₁ ≡ i + b = e.0.0.sum in
          record {
            sum = sum₁;
            on = omega arith;
            opened = omega (arith, from_here st, left_after s₁ st, times Q.width i₁ b₁ (i + b) sum₁);
            written = omega (arith, times Q.pay i₁ b₁ (i + b) sum₁);
          })
          (λ n₁ s₁ e.
          let i₁ : ℕ = Z.place s₁.kept in
          let b₁ : ℕ = before Q.eof s₁.rest in
          let sum₁ : i₁ + b₁ ≡ i + b = e.0.0.sum in
          record {
            sum = sum₁;
            on = omega arith;
            opened = omega (arith, from_here st);
            here = omega (arith, from_here st, come_none Q.width b₁, times Q.width i₁ b₁ (i + b) sum₁);
            written = omega (arith, times Q.pay i₁ b₁ (i + b) sum₁);
          })
          (ends_both (ends_both (walk_went room p t n s) (walk_opens (n + ahead Q m s) room m p l t (few st) n s (omega arith)))
          (walk_wrote (worth Q Z s + c) room c p a t n s (omega arith)))

      -- A whole input of k tokens before its end, from a count of nothing.
      pub record Accepted (start : R) (k n : ℕ) (s : St M) : Type 0 where
        pub opened : n ≤ Q.width * k + 1
        pub written : Z.nodes s.kept + Q.gives start ≤ Q.pay * k + Q.needs start
        pub sum : Z.place s.kept + before Q.eof s.rest ≡ k

      -- The same where it is refused: the nodes are paid for by the tokens that were taken, and the openings were on these and on the one at hand.
      pub record Refused (start : R) (k n : ℕ) (s : St M) : Type 0 where
        pub opened : n ≤ Q.width * k + 1
        pub here : n ≤ Q.width * Z.place s.kept + Q.width + 1
        pub written : Z.nodes s.kept + spare Q (Q.needs start) (G.body start) ≤ Q.pay * Z.place s.kept + Q.needs start
        pub sum : Z.place s.kept + before Q.eof s.rest ≡ k

      pub whole : (room : ℕ) (start : R) (s : St M) → Z.place s.kept ≡ 0 → Z.nodes s.kept ≡ 0 →
          Ends (Accepted start (before Q.eof s.rest)) (Refused start (before Q.eof s.rest)) (descend G room start 0 s)
      unfolding worth ahead
      whole room start s p₀ n₀ =
          let k : ℕ = before Q.eof s.rest in
          ends_map
          (λ n₁ s₁ h. record { opened = omega arith; written = omega arith; sum = omega arith })
          (λ n₁ s₁ h.
          let e : Z.place s₁.kept + before Q.eof s₁.rest ≡ k = omega arith in
          record {
            opened = omega arith;
            here = omega (arith, come_none Q.width (before Q.eof s₁.rest), times Q.width (Z.place s₁.kept) (before Q.eof s₁.rest) k e);
            written = omega (arith, times Q.pay (Z.place s₁.kept) (before Q.eof s₁.rest) k e);
            sum = e;
          })
          (ends_both (ends_both (descend_went room start 0 s)
          (descend_opens (Q.width * k + 1) room start 0 s (omega (arith, ahead_most G Q (G.rank start) Q.width s (leb→le (G.rank start) Q.width (fit start).ranked), come_all Q.width k))))
          (descend_wrote (Q.pay * k + Q.needs start) room start 0 s (omega arith)))
