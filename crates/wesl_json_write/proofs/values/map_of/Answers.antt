use Rattle.std.proofs.Common.{◌≡◌, [], ◌∷◌, ◌++◌, append_assoc, ap, rules, string_bytes, ◌∙◌}
use Rattle.serde_json.specs.Data.{put}
use Rattle.serde_json.specs.View.{members_view, view}
use Rattle.wesl_json_write.proofs.values.map_of.Goals as goal

pub members-preserved : goal.members-preserved
members-preserved c =
    let m = c.in-Some.member in
    let last : c.members.members.items ≡ c.pop.new.self.items ++ m ∷ [] = search rules in
    let told : members_view c.put.new.map.entries ≡ put (string_bytes m.0) (view m.1) (members_view c.members.map.entries) = search rules in (
      m ∷ c.members.invariant.0,
      c.members.invariant.1 ∙ ap (λ xs. xs ++ c.members.invariant.0) last ∙ append_assoc c.pop.new.self.items (m ∷ []) c.members.invariant.0,
      told ∙ ap (put (string_bytes m.0) (view m.1)) c.members.invariant.2,
    )
