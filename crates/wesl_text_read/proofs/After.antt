-- One part after another.
use Rattle.std.proofs.Common.{◌≡◌, List, Option, Some, None, refl, ap}
use Rattle.wesl_tree_names.specs.Path.{Text}
use Rattle.wesl_tree_syntax.specs.Tree.{TreeOf, before}
use Rattle.wesl_text_tokens.specs.Tokens.{Token}
use Rattle.wesl_text_form.specs.Spelling.{Forest}
use Rattle.wesl_text_reading.specs.Leaves.{Read, after}
use Rattle.wesl_text_reading.specs.Reading.{and_others}

pub after-others : {A : Type 0} (t : TreeOf Text) (r : Read Forest) (k : Forest → List Token → Read A) → after (and_others t r) k ≡ after r (λ f us. k (before t f) us)
after-others t None k = refl
after-others t (Some x) k = refl

pub after-same : {A B : Type 0} (r : Read A) (k h : A → List Token → Read B) → ((x : A) (us : List Token) → k x us ≡ h x us) → after r k ≡ after r h
after-same None k h e = refl
after-same (Some x) k h e = e x.0 x.1
