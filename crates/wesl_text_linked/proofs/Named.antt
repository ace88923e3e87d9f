-- The unit that a link gives.
use Rattle.std.proofs.Common.{inl, inr}
use Rattle.wesl_tree_names.specs.Path.{Text, Path}
use Rattle.wesl_tree_names.specs.declared.errors.Diagnostic.{Diagnostic}
use Rattle.wesl_tree.specs.declared.unit.TranslationUnit.{TranslationUnit}
use Rattle.wesl_resolve_base.specs.declared.resolver.Resolver.{Ghosts}
use Rattle.wesl_link_engine.specs.Asking.{request_view, task_for}
use Rattle.wesl_link_engine.specs.Linking.{asked_root}
use Rattle.wesl_link_engine.specs.Resolved.{Resolved}
use Rattle.wesl_link_engine.specs.Worlds.{IsRefused}
use Rattle.wesl_link_engine.proofs.Refusing.{memory_told}
use Rattle.wesl_text_linked.specs.Linked.{IsFound, RefusesNamed, RefusesUnit}
use Rattle.wesl_text_linked.specs.declared.request.TextRequest.{TextRequest}

-- why there is no unit of what was found is why there is none of the link
pub named_refused : {R : Type 0} (g : Ghosts R) (resolver : R) (name_of : Path → Text → Text) (request : TextRequest) (root : TranslationUnit) (found : Resolved)
    → IsFound g resolver (request_view request.link) root found → (d : Diagnostic) → RefusesNamed name_of request found d → RefusesUnit g resolver name_of request root d
named_refused g resolver name_of request root found is d (inl bare) =
    let q = request_view request.link in
    inl (memory_told (IsRefused (g.hands resolver) (g.refuses resolver) (asked_root q root) (task_for q) q.limit) d bare)
named_refused g resolver name_of request root found is d (inr (u, map, gives, refused)) = inr (u, map, (found, is, gives), refused)
