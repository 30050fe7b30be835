-- A script that is accepted: its nodes are the layout of a proper tree, and what that tree says is what the machine of erased trees comes to, within the room for depth.
-- Assumes nothing.
use mathlib.Core.Path.{◌≡◌, refl, ap, sym, ◌∙◌, subst}
use mathlib.Core.List.{List, [], ◌∷◌}
use Prim.Native.Nat.{ℕ, ◌≤◌}
use native.Mathlib.Omega.{arith}
use Rattle.grammar.specs.Grammar.{call}
use Rattle.grammar.specs.Trial.{Machine, St}
use Rattle.grammar.specs.Descent.{Answer, done, no, deep, stuck, descend}
use Rattle.grammar.proofs.Sets.{Sees}
use Rattle.grammar.proofs.Top as top
use Rattle.tokens.specs.Token.{Token}
use Rattle.ast.specs.Node.{Node}
use Rattle.pyhyeon.specs.Symbol.{symbols}
use Rattle.pyhyeon.specs.Machine.{blank}
use Rattle.pyhyeon.specs.Machine as nodes
use Rattle.pyhyeon.specs.Action.{Action, machine}
use Rattle.pyhyeon.specs.Rules.{Program}
use Rattle.pyhyeon.specs.Tables.{pyhyeon, follow, depth}
use Rattle.pyhyeon.specs.Reading.{Work, Descended, Accepted, start, work_of, descended, descent}
use Rattle.pyhyeon.proofs.Language.{language}
use Rattle.trees.specs.Flat.{flat}
use Rattle.trees.proofs.Stack.{bottom}
use Rattle.trees.specs.Law.{TreeOf}
use Rattle.trees.proofs.Grown.{grown_over}
use Rattle.grammar.proofs.Ways.{Way}
use Rattle.unparse.specs.Levels.{X}
use Rattle.unparse.proofs.Write.{need}
use Rattle.unparse.specs.Values.{Value}
use Rattle.unparse.proofs.Machine.{Kept, trees}
use Rattle.grammar.proofs.Alike.{Pair}
use Rattle.grammar.proofs.Relate.{Carried, carried}
use Rattle.grammar.proofs.Back.{way_of}
use Rattle.unparse.proofs.Language.{reads}
use Rattle.unparse.proofs.Depth.{within}
use Rattle.standard.specs.Erase.{erase, said}
use Rattle.standard.proofs.Erasing.{Plain, kept, both, beside, erases}

module _ (source text : List ℕ) (toks : List Token) (fine : Plain source toks) where
  -- what the machine of erased trees has at first
  abbrev pub first : Kept
  first = kept source text toks 0 bottom

  -- the tree of these nodes, and the reading of what it says
  pub record Said (ns : List Node) : Type 0 where
    pub of : TreeOf source toks ns
    pub deep : need X (said source text of.tree) ≤ depth
    pub count : ℕ
    pub rest : List ℕ
    pub last : Kept
    pub reads : descend {M = trees} pyhyeon depth Program 0 (record { rest = symbols source toks; kept = first }) ≡ done count (record { rest = rest; kept = last })
    pub value : last.values ≡ erase source text of.tree ∷ []

  abbrev N : Machine Action
  N = machine source toks

  abbrev B : Machine Action
  B = both source text toks fine

  -- the machine of nodes beside that of both, and that beside the machine of erased trees
  abbrev into : Pair Action
  into = record { left = N; right = B; Rel = λ k j. k ≡ j.0; shifts = λ c k j h. ap (N.shift c) h; runs = λ a k j h. ap (N.run a) h }

  abbrev out : Pair Action
  out = record { left = B; right = trees; Rel = λ k j. k.1 ≡ j; shifts = λ c k j h. ap (trees.shift c) h; runs = λ a k j h. ap (trees.run a) h }

  said_of : (n : ℕ) (s : St N) → descend pyhyeon depth Program 0 (start source toks) ≡ done n s → Said s.kept.nodes
  unfolding start beside erases
  said_of n s e =
      let l = symbols source toks in
      let see : Sees (follow Program) s.rest = top.accepted_at language depth 0 n (start source toks) s e in
      let w : Way pyhyeon N depth (call Program) l blank s.rest s.kept = way_of pyhyeon 0 e in
      let c : Carried pyhyeon into depth (call Program) l (blank, first) s.rest s.kept = carried {G = pyhyeon} into w (blank, first) refl in
      let d : Carried pyhyeon out depth (call Program) l first s.rest c.kept = carried {G = pyhyeon} out c.way first refl in
      let x = reads {M = B} c.way see 0 in
      let y = reads {M = trees} d.way see 0 in
      let g = grown_over source toks (beside source text toks fine) (erases source text toks fine) (blank, first) (record { rest = s.rest; kept = c.kept }) refl refl
      (top.descent→trial language depth 0 x.count _ _ x.is) in
      let b = within depth 0 y.count Program _ _ y.is in
      let v : d.kept.values ≡ erase source text g.of.tree ∷ [] = ap (λ (k : Kept). k.values) (sym d.same ∙ g.holds) in
      let u : b.top ≡ erase source text g.of.tree = cc (b.is, v) in
      let q : c.kept.0.nodes ≡ flat g.of.tree = g.of.is in
      record {
        of = record { tree = g.of.tree; is = ap (λ (k : nodes.Kept). k.nodes) c.same ∙ q; proper = g.of.proper };
        deep = subst (λ (v : Value). need X v.result ≤ depth) u b.small;
        count = y.count;
        rest = s.rest;
        last = d.kept;
        reads = y.is;
        value = v;
      }

  -- of every script that is accepted
  pub accepted_said : (w : Work) → descent source toks ≡ Accepted w → Said w.nodes
  unfolding descent
  accepted_said w e = go (descend pyhyeon depth Program 0 (start source toks)) refl e
    where
      go : (x : Answer N) → descend pyhyeon depth Program 0 (start source toks) ≡ x → descended source toks x ≡ Accepted w → Said w.nodes
      go (done n s) f e = let q : s.kept.nodes ≡ w.nodes = ap (λ (d : Descended). (work_of d).nodes) e in subst Said q (said_of n s f)
      go (no asked n s) f e = let z : ◌≡◌ {A = ℕ} 0 1 = cc in absurd (omega arith)
      go (deep n s) f e = let z : ◌≡◌ {A = ℕ} 0 1 = cc in absurd (omega arith)
      go stuck f e = let z : ◌≡◌ {A = ℕ} 0 1 = cc in absurd (omega arith)
