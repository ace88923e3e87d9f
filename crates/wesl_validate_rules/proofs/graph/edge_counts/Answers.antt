use Rattle.std.proofs.Common.{◌≡◌, ℕ, ◌+◌, ◌<◌, ◌≤◌, List, [], ◌∷◌, ◌++◌, length, get_or, map, take, take_all, ap, sym, ◌∙◌, rules, Vec, Global}
use Rattle.std.proofs.lemmas.List.{map_more}
use Rattle.wesl_validate_rules.proofs.graph.edge_counts.Goals as goal

counted_next : (g : List (Vec ℕ Global)) (i : ℕ) (v : Vec ℕ Global) (old new : List ℕ) (n : ℕ) → i < length g → v ≡ get_or g i v → new ≡ old ++ n ∷ [] → n ≡ length v.items
    → old ≡ map (λ v. length v.items) (take i g) → new ≡ map (λ v. length v.items) (take (i + 1) g)
counted_next g i v old new n h is pushed at inv =
    pushed ∙ ap (λ l. l ++ n ∷ []) inv ∙ ap (λ m. map (λ (v : Vec ℕ Global). length v.items) (take i g) ++ m ∷ []) (at ∙ ap (λ (u : Vec ℕ Global). length u.items) is) ∙ sym (map_more (λ (v : Vec ℕ Global). length v.items) g i v h)

counted_all : (g : List (Vec ℕ Global)) (i : ℕ) (old : List ℕ) → length g ≤ i → old ≡ map (λ v. length v.items) (take i g) → old ≡ map (λ v. length v.items) g
counted_all g i old h inv = inv ∙ ap (λ l. map (λ (v : Vec ℕ Global). length v.items) l) (take_all i g h)

pub loop-edges-preserved : goal.loop-edges-preserved
loop-edges-preserved c = counted_next c.args.graph.now c.loop-edges.edges-index c.edges-item.result c.loop-edges.left.items c.push.new.self.items c.len.result c.loop-edges-test.true c.edges-item.is c.in_ok-push.ensures.items (c.len.ensures ∙ search rules) c.loop-edges.invariant

pub returns : goal.returns
returns c = counted_all c.args.graph.now c.loop-edges.edges-index c.loop-edges.left.items c.loop-edges-test.false c.loop-edges.invariant
