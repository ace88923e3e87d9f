use Rattle.std.proofs.Common.{◌≡◌, ◌≤◌, ◌-◌, arith, rules, ◌∙◌, ℕ, List, ap, sym, take, drop, length, map, string_bytes, String, subst, Option, IfSome}
use Rattle.std.specs.declared.alloc.Global.{Global}
use Rattle.std.proofs.Math.Seq.{take-length}
use Rattle.std.proofs.lemmas.List.{length-map, length-drop, drop-map}
use Rattle.wesl_tree_names.specs.Path.{Text, Path, absolute, extend, path_view}
use Rattle.wesl_tree_names.specs.declared.path.ModulePath.{ModulePath}
use Rattle.wesl_resolve_base.specs.Suffixes.{suffix}
use Rattle.wesl_resolve_base.proofs.ResultLemmas.{IfOk-to, IfSome-ok}
use Rattle.wesl_resolve_base.proofs.suffixes.path_after.Goals as goal

rest : {X : Type 0} (n : ℕ) (xs : List X) → take (length xs - n) (drop n xs) ≡ drop n xs
rest n xs = ap (λ k. take k (drop n xs)) (sym (length-drop n xs)) ∙ take-length (drop n xs)

pub returns : goal.returns
returns c =
    let names = c.args.path.now.components.items in
    let below : List (String Global) → List Text = λ xs. map string_bytes (take (length xs - c.args.count) (drop c.args.count xs)) in
    let kept : below c.deref.result.now ≡ drop c.args.count (map string_bytes names) = ap below c.deref.ensures.value ∙ ap (map string_bytes) (rest c.args.count names) ∙ sym (drop-map string_bytes c.args.count names) in
    let after : List Text → Path = λ cs. record { origin = absolute; components = cs } in
    let Is : ModulePath → Type 0 = λ p. path_view p ≡ suffix c.args.count (path_view c.args.path.now) in
    let Some-is : Option ModulePath → Type 0 = λ o. IfSome o Is in
    subst Some-is (sym c.made.ensures)
    (IfSome-ok Is c.join.result (IfOk-to _ Is (λ p e. e ∙ ap (λ root. extend root (below c.deref.result.now)) c.new_root.ensures ∙ ap after kept) c.join.result c.join.ensures.joined))

within : (n : ℕ) (xs ys : List (String Global)) → xs ≡ ys → n ≤ length (map string_bytes ys) → n ≤ length xs
within n xs ys same h = omega (arith, h, length-map ys string_bytes, ap length same)

pub slice_bounds-join-count : goal.slice_bounds-join-count
slice_bounds-join-count c = within c.args.count c.deref.result.now c.args.path.now.components.items c.deref.ensures.value c.requires

pub offset_bounds-deref-count : goal.offset_bounds-deref-count
offset_bounds-deref-count c = let h : c.args.count ≤ length c.deref.result.now = within c.args.count c.deref.result.now c.args.path.now.components.items c.deref.ensures.value c.requires in search rules
