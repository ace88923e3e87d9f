use Rattle.std.proofs.Common.{◌≡◌, ◌∙◌, map}
use mathlib.Core.List.{map-map}
use Rattle.wesl_tree_names.specs.Path.{path_view}
use Rattle.wesl_scope_meanings.specs.Keys.{flat}
use Rattle.wesl_scope_meanings.specs.Known.{is_known}
use Rattle.wesl_scope_meanings.specs.Senses.{sense_view, key_in}
use Rattle.wesl_scope_meanings.specs.declared.sense.Sense.{Sense}
use Rattle.wesl_scope_meanings.proofs.Keyed.{next_made, all_made}
use Rattle.wesl_scope_meanings.proofs.reader.Reader.keys.Goals as goal

pub loop-sense-preserved : goal.loop-sense-preserved
loop-sense-preserved c =
    let key = key_in (is_known c.args.self.now) c.args.names.now (map (λ p. path_view p.now) c.args.paths.now) in
    next_made (λ (s : Sense). key (sense_view s)) flat c.deref-sense-items.result.now c.args.self.now.senses.items c.deref-sense-items.ensures.value c.loop-sense.sense-index _ c.loop-sense.keys.items c.push.new.self.items c.key.result
    c.loop-sense-test.true c.in_ok-push.ensures.items c.key.ensures c.loop-sense.invariant

pub returns : goal.returns
returns c =
    let key = key_in (is_known c.args.self.now) c.args.names.now (map (λ p. path_view p.now) c.args.paths.now) in
    let ss = c.args.self.now.senses.items in
    let apart : map (λ (s : Sense). key (sense_view s)) ss ≡ map key (map sense_view ss) = simp map-map in
    all_made (λ (s : Sense). key (sense_view s)) flat c.deref-sense-items.result.now ss c.deref-sense-items.ensures.value c.loop-sense.sense-index c.loop-sense.keys.items c.loop-sense-test.false c.loop-sense.invariant ∙ apart
