use Rattle.std.proofs.Common.{◌≡◌, ◌++◌, ◌∷◌, [], rules, string_bytes, map, true≢false, refl, sym, ap, subst, ◌∙◌, append_assoc}
use Rattle.std.proofs.lemmas.Str.{IsUtf8-string_bytes}
use Rattle.json.specs.Print.{print}
use Rattle.json.specs.Token.{begin_object}
use Rattle.json.specs.Tree.{json_tokens, members_tokens}
use Rattle.serde_json.specs.Data.{Data, object}
use Rattle.serde_json.specs.Written.{members_outline, outline}
use Rattle.wesl_json_print.proofs.Texts.{text-printed, text-valid}
use Rattle.wesl_source_map.specs.BasicView.{items}
use Rattle.wesl_source_map_entries.specs.Listed.{IsListing}
use Rattle.wesl_program.specs.Answers.{entry_view}
use Rattle.wesl_program.specs.Line.{map_members}
use Rattle.wesl_program.proofs.map_text.print_map.Goals as goal

pub unreachable-requires : goal.unreachable-requires
unreachable-requires c =
    let out = c.write_entries.new.out in
    let kept : out.before ≡ string_bytes c.args.text = search rules in
    true≢false (sym (c.in-Err.ensures.succeeds (text-valid (string_bytes c.args.text) out.before c.into_inner.result.items (print out.tokens) kept c.into_inner.ensures.items (IsUtf8-string_bytes c.args.text) c.into_inner.ensures.utf8)))

pub returns : goal.returns
returns c =
    let out = c.write_entries.new.out in
    let listing = map entry_view c.deref.result.now in
    let listed : IsListing (items c.args.source_map.now) listing = subst (λ es. IsListing (items c.args.source_map.now) (map entry_view es)) (sym c.deref.ensures.value) c.in_ok-entries.ensures in
    let d : Data = object (map_members listing) in
    let kept : out.before ≡ string_bytes c.args.text = search rules in
    let written : out.tokens ≡ c.new-out.result.tokens ++ json_tokens (outline d) =
    c.in_ok-write_entries.ensures.written ∙ ap (λ ts. ts ++ members_tokens (members_outline (map_members listing))) (search rules) ∙ append_assoc c.new-out.result.tokens (begin_object ∷ []) (members_tokens (members_outline (map_members listing))) in
    (d, (listing, listed, refl), ap (λ v. v.items) c.in-Ok.ensures.ok ∙ text-printed (string_bytes c.args.text) out.before c.into_inner.result.items c.new-out.result.tokens out.tokens d kept c.new-out.ensures.tokens written c.into_inner.ensures.items)
