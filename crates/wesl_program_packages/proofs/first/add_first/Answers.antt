use Rattle.std.proofs.Common.{◌≡◌, false, Some, string_bytes, subst, ◌∙◌, rules}
use Rattle.std.specs.Option.{is_some}
use Rattle.std.specs.HashMap.{get_by_text}
use Rattle.std.proofs.lemmas.Map.Text.{hash_map_updates_text}
use Rattle.wesl_program_packages.proofs.Added.{is-added}
use Rattle.wesl_program_packages.proofs.first.add_first.Goals as goal

pub returns-in_ok-insert : goal.returns-in_ok-insert
returns-in_ok-insert g c =
    let old = c.args.named.now in
    let text = string_bytes c.args.name in
    let asked : is_some (get_by_text old c.as_str.result.now) ≡ false = search rules in
    let absent : is_some (get_by_text old text) ≡ false = subst (λ t. is_some (get_by_text old t) ≡ false) c.as_str.ensures.value asked in
    record { added = λ n. hash_map_updates_text text old c.insert.new.self (Some c.args.one) c.in_ok-insert.ensures.updates n ∙ is-added (get_by_text old) text n c.args.one absent }
