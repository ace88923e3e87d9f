-- What becomes of what lies strictly below a node.
use Rattle.std.proofs.Common.{◌≡◌, Bool, true, false, refl, sym, ap, ◌∙◌, subst}
use Rattle.wesl_tree_syntax.specs.Tree.{Label, Forest, Tree, end, tree, before, kind, type_expression}
use Rattle.wesl_visit_collect.specs.Picks.{picks}
use Rattle.wesl_visit_rewrite.specs.Replaced.{Rule, is_passed_over, Replaced, nothing, word, other, as_it_stands, inner_first, Stopped, at_node, after_inner, inside_node, inside_other, later, ReplacedBelow, of_word, of_other, StoppedBelow, within}
use Rattle.wesl_visit_collect.specs.Sought.{test}
use Rattle.wesl_visit_rewrite.specs.Went.{Went, WentBy, WentBelow, WentBelowBy}
use Rattle.wesl_visit_rewrite.proofs.Labels.{no_word}
use Rattle.wesl_visit_collect.proofs.Joined.{agrees}

differs : {X : Type 0} (b : Bool) → b ≡ true → b ≡ false → X
differs b p q = absurd (let x : ⊥ = cc in x)

no_stop : {k : Rule} {f : Forest} {X : Type 0} → Stopped k end f → X
no_stop s = elim s [ ]

module _ {k : Rule} where
  replaced_root : {l m : Label} {f g : Forest} → test k.sought l ≡ false → Replaced k (tree l f end) (tree m g end) → ReplacedBelow k (record { label = l; children = f }) (record { label = m; children = g })
  replaced_root n (word w nothing) = of_word w
  replaced_root n (other w p q nothing) = of_other w q
  replaced_root n (as_it_stands p d t nothing) = differs _ p n
  replaced_root n (inner_first p d q t nothing) = differs _ p n

  stopped_root : {l m : Label} {f g : Forest} → test k.sought l ≡ false → Stopped k (tree l f end) (tree m g end) → StoppedBelow k (record { label = l; children = f }) (record { label = m; children = g })
  stopped_root n (at_node p d) = differs _ p n
  stopped_root n (after_inner p d r) = differs _ p n
  stopped_root n (inside_node p d s) = differs _ p n
  stopped_root n (inside_other w p s) = within w s
  stopped_root n (later r s) = no_stop s

module _ (k : Rule) where
  root_by : (b : Bool) (s t : Tree) → test k.sought s.label ≡ false → WentBy k true (before s end) b (before t end) → WentBelowBy k s b t
  root_by true s t n r = replaced_root n r
  root_by false s t n r = stopped_root n r

  below_by : (b : Bool) (l m : Label) (f g : Forest) → m ≡ l → is_passed_over k.sought l ≡ false → WentBy k true f b g → WentBelowBy k (record { label = l; children = f }) b (record { label = m; children = g })
  below_by true l m f g e w r = subst (λ x. ReplacedBelow k (record { label = l; children = f }) (record { label = x; children = g })) (sym e) (of_other w r)
  below_by false l m f g e w r = subst (λ x. StoppedBelow k (record { label = l; children = f }) (record { label = x; children = g })) (sym e) (within w r)

-- where the node itself is of no kind
pub root : (k : Rule) (b : Bool) (s t : Tree) → picks k.sought s.label ≡ false → Went k true (before s end) b (before t end) → WentBelow k s b t
root k b s t n r = record { went = root_by k b s t (agrees k.sought s.label ∙ n) r.went }

-- where it is a type
pub type_root : (k : Rule) (b : Bool) (s t : Tree) → s.label ≡ kind type_expression → t.label ≡ kind type_expression → Went k true s.children b t.children → WentBelow k s b t
type_root k b s t p q r = record { went = below_by k b s.label t.label s.children t.children (q ∙ sym p) (ap (is_passed_over k.sought) p ∙ no_word k.sought (kind type_expression) refl) r.went }
