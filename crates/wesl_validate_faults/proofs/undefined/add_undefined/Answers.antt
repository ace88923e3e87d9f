use Rattle.std.proofs.Common.{◌≡◌, ◌∙◌, ◌∷◌, [], ap, sym, true, false, Bool}
use Rattle.std.specs.Prelude.{if◌then◌else◌}
use Rattle.wesl_scope_graph.specs.Graphs.{graph_view}
use Rattle.wesl_scope_occurrences.specs.Views.{occurrence_view}
use Rattle.wesl_validate_rules.specs.Known.{is_unknown}
use Rattle.wesl_tree_syntax.specs.Unit.{name_in}
use Rattle.wesl_validate_faults.specs.Findings.{Finding, undefined}
use Rattle.wesl_validate_faults.specs.Gathered.{name_by}
use Rattle.wesl_validate_faults.proofs.Listing.{pushed, not_pushed}
use Rattle.wesl_validate_faults.proofs.undefined.add_undefined.Goals as goal

taken : (t : Bool) (f : Finding) → t ≡ true → f ∷ [] ≡ (if t then f ∷ [] else [])
taken t f e = ap (λ b. if b then f ∷ [] else []) (sym e)

left : (t : Bool) (f : Finding) → t ≡ false → (if t then f ∷ [] else []) ≡ []
left t f e = ap (λ b. if b then f ∷ [] else []) e

pub returns-in_ok-push : goal.returns-in_ok-push
returns-in_ok-push c =
    let o = occurrence_view c.args.occurrence.now in
    let names = c.args.names.now in
    let by = name_by names (graph_view c.args.holders.now.items) o.declaration in
    pushed c.args.findings.now.items c.push.new.self.items _ _ c.in_ok-push.ensures.items
    (ap (λ d. undefined d c.name_of-name.result.now ∷ []) c.name_round-holder.ensures ∙ (ap (λ n. undefined by n ∷ []) c.name_of-name.ensures
    ∙ taken (is_unknown c.args.known.now.items o) (undefined by (name_in names o.name)) (sym c.is_unknown.ensures ∙ c.if-is_unknown.true)))

pub returns-else-is_unknown : goal.returns-else-is_unknown
returns-else-is_unknown c =
    let o = occurrence_view c.args.occurrence.now in
    let names = c.args.names.now in
    not_pushed c.args.findings.now.items _ (left (is_unknown c.args.known.now.items o) (undefined (name_by names (graph_view c.args.holders.now.items) o.declaration) (name_in names o.name)) (sym c.is_unknown.ensures ∙ c.if-is_unknown.false))
