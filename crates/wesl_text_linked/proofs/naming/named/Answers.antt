use Rattle.std.proofs.Common.{◌≡◌, None, true, refl, subst}
use Rattle.wesl_source_map.specs.BasicView.{items}
use Rattle.wesl_link_engine.specs.Recorded.{Record, IsRecordedBy}
use Rattle.wesl_link_engine.specs.Resolved.{IsMangled, writes}
use Rattle.wesl_link.specs.Keeping.{resolved, modules_of}
use Rattle.wesl_link.proofs.Recorded.{recorded_in}
use Rattle.wesl_text_linked.proofs.naming.named.Goals as goal

pub returns-in-Ok-clause-named : goal.returns-in-Ok-clause-named
returns-in-Ok-clause-named g c =
    let name_of = g.M.Mangler.name_of in
    let mapper = c.new-mapper.result in
    let before = c.args.found in
    let after = c.mangle.new.self in
    let last = c.mangle.new.mangler.sourcemap in
    let nothing : Record = λ name. None in
    let empty : items mapper.sourcemap ≡ nothing = λ i name. c.new-mapper.ensures.decls name i in
    let written : IsRecordedBy true (writes (name_of mapper.mangler) c.args.mangle_root (modules_of before)) (items mapper.sourcemap) (items last) = c.in_ok-mangle.ensures.recorded in
    record {
      named = resolved after;
      mangled = subst (λ m. IsMangled (name_of m) c.args.mangle_root (resolved before) (resolved after)) c.new-mapper.ensures.mangler c.in_ok-mangle.ensures.mangled;
      assembled = c.in_ok-unit.ensures.assembled;
      recorded = subst (λ m. IsRecordedBy true (writes (name_of m) c.args.mangle_root (modules_of before)) nothing (items c.in-Ok.map)) c.new-mapper.ensures.mangler
          (recorded_in (writes (name_of mapper.mangler) c.args.mangle_root (modules_of before)) nothing (items mapper.sourcemap) (items last) (items last) (items c.in-Ok.map) empty written refl c.in-Ok.ensures.decls);
    }
