-- Which attribute ends a list of them.
use Rattle.std.proofs.Common.{◌≡◌, ℕ, zero, suc, ◌-◌, List, [], ◌∷◌, Some, None, length, refl, ap, ◌∙◌, arith}
use Rattle.std.proofs.lemmas.Option.{slice_get_within}
use Rattle.std.specs.List.{slice_get}
use Rattle.wesl_tree_names.specs.Path.{Text}
use Rattle.wesl_tree_syntax.specs.declared.span.Spanned.{Spanned}
use Rattle.wesl_tree_syntax.specs.declared.attribute.Attribute.{Attribute}
use Rattle.wesl_tree_syntax.specs.declared.attribute.Attribute.TheVariants as attr
use Rattle.wesl_text_form.specs.Spelling.{ends_open}
use Rattle.wesl_text_operands.specs.Targets.{plain_attribute, spelled_attributes}

module _ (names : List Text) where
  skipped : (y : Attribute) (z : Spanned Attribute) (zs : List (Spanned Attribute)) → ends_open (spelled_attributes names (z ∷ zs)) ≡ ends_open (spelled_attributes names (plain_attribute y ∷ z ∷ zs))
  skipped (attr.Align e) z zs = refl
  skipped (attr.Binding e) z zs = refl
  skipped (attr.BlendSrc e) z zs = refl
  skipped (attr.Builtin n) z zs = refl
  skipped attr.Const z zs = refl
  skipped (attr.Diagnostic s r) z zs = refl
  skipped (attr.Group e) z zs = refl
  skipped (attr.Id e) z zs = refl
  skipped (attr.Interpolate ns) z zs = refl
  skipped attr.Invariant z zs = refl
  skipped (attr.Location e) z zs = refl
  skipped attr.MustUse z zs = refl
  skipped (attr.Size e) z zs = refl
  skipped (attr.WorkgroupSize a b c) z zs = refl
  skipped attr.Vertex z zs = refl
  skipped attr.Fragment z zs = refl
  skipped attr.Compute z zs = refl
  skipped attr.Publish z zs = refl
  skipped (attr.If e) z zs = refl
  skipped (attr.Elif e) z zs = refl
  skipped attr.Else z zs = refl
  skipped (attr.Custom n None) z zs = refl
  skipped (attr.Custom n (Some es)) z zs = refl

  ends_at : (xs : List (Spanned Attribute)) (i : ℕ) (x : Spanned Attribute) → suc i ≡ length xs → slice_get xs i ≡ Some x → ends_open (spelled_attributes names (x ∷ [])) ≡ ends_open (spelled_attributes names xs)
  ends_at [] i x e h = cc
  ends_at (y ∷ []) zero x e h = let same : x ≡ y = cc in ap (λ z. ends_open (spelled_attributes names (z ∷ []))) same
  ends_at (y ∷ []) (suc i) x e h = cc
  ends_at (y ∷ z ∷ zs) zero x e h = absurd (omega (arith, e))
  ends_at (y ∷ z ∷ zs) (suc i) x e h = ends_at (z ∷ zs) i x (omega (arith, e)) h ∙ skipped y.node z zs

  pub ends_with : (xs : List (Spanned Attribute)) (x : Spanned Attribute) → slice_get xs (length xs - 1) ≡ Some x → ends_open (spelled_attributes names (plain_attribute x.node ∷ [])) ≡ ends_open (spelled_attributes names xs)
  ends_with xs x h = let within = slice_get_within xs (length xs - 1) x h in ends_at xs (length xs - 1) x (omega (arith, within)) h
