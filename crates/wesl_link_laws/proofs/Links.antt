-- The units of links, and of what a `Resolutions` keeps.
use Rattle.std.proofs.Common.{Option, Some, None, List, Contains, arith, refl, sym, subst}
use Rattle.wesl_tree_names.specs.Path.{Text, Path}
use Rattle.wesl_tree_syntax.specs.Unit.{UnitOf, UnitView, empty_unit}
use Rattle.wesl_link_reach.specs.World.{Task}
use Rattle.wesl_link_reach.proofs.Lists.{contains_map}
use Rattle.wesl_scope_occurrences.specs.Laws.{WaysLeadOutwards, OccurrencesAreIdentifiers}
use Rattle.wesl_scope_numbers.specs.Faithful.{IsFaithful}
use Rattle.wesl_link_laws.specs.Apart.{NamesAreApart}
use Rattle.wesl_scope_numbers.specs.Retargeted.{IsNumberedByMeaning}
use Rattle.wesl_link_engine.specs.Given.{Given}
use Rattle.wesl_link_tables.specs.TextsView.{numbering_of_texts as numbering}
use Rattle.wesl_link_engine.specs.Worlds.{Module}
use Rattle.wesl_link_engine.specs.Linked.{IsAssembled}
use Rattle.wesl_link_engine.specs.Resolved.{AssemblesTo}
use Rattle.wesl_link_engine.specs.Keeping.{module_of, all_loaded, modules_in, task_in, IsSoundLink, resolved_of, name_under}
use Rattle.wesl_link_engine.specs.declared.link.Link.{Link}
use Rattle.wesl_link_laws.specs.Linked.{IsUnitOfCode, IsFound, IsEntered}
use Rattle.wesl_link_laws.proofs.Respelled.{IsGrammatical, grammatical}
use Rattle.wesl_link_laws.proofs.Numbered.{numbered_by_meaning, faithful_where_apart}

-- ---- units of links
-- each module of a link is as the grammar has it
pub found_grammatical : (w : List Module) (task : Task Path Text) → IsFound w task → (m : Module) → Contains w m → IsGrammatical m.unit
found_grammatical w task found m c = let (t, e) = found.units m c in subst (λ (u : UnitOf Text). IsGrammatical u) e (grammatical t)

module _ (lead : WaysLeadOutwards) (identified : OccurrencesAreIdentifiers) (w : List Module) (task : Task Path Text) (names : Path → Text → Text) (unit : UnitView) (found : IsFound w task) (a : IsAssembled w task names unit) where
  pub linked_numbered : IsNumberedByMeaning unit
  linked_numbered = numbered_by_meaning lead identified w task names unit a (found_grammatical w task found) found.once found.entered

  pub linked_faithful : NamesAreApart unit → IsFaithful unit
  linked_faithful apart = faithful_where_apart lead identified w task names unit a (found_grammatical w task found) found.once found.entered apart

-- ---- the unit of a `Resolutions`
units_in : (l : Link) (m : Module) → Contains (modules_in l) m → IsUnitOfCode m.unit
units_in l m c = let (x, inside, e) = contains_map module_of (all_loaded l) m c in subst (λ (n : Module). IsUnitOfCode n.unit) e (x.unit, refl)

pub kept_found : (l : Link) (names : Given) → IsSoundLink (Some l) → IsEntered (resolved_of (Some l) names) → IsFound (modules_in l) (task_in l)
kept_found l names sound entered = record { units = units_in l; once = sound.once; entered = entered }

empty_numbered : IsNumberedByMeaning empty_unit
empty_numbered = (
  record {
    one_block = λ i d h. absurd (omega (arith, h));
    one_number = λ i d h. absurd (omega (arith, h));
    words_unbound = λ i d h. absurd (omega (arith, h));
    unbound_apart = λ i d h. absurd (omega (arith, h));
  },
  λ i m h k. absurd (omega (arith, h)),
)

pub kept_numbered : WaysLeadOutwards → OccurrencesAreIdentifiers → (l : Option Link) (names : Given) (unit : UnitView) → IsSoundLink l → IsEntered (resolved_of l names) → AssemblesTo (resolved_of l names) unit → IsNumberedByMeaning unit
kept_numbered lead identified None names unit sound entered a = subst IsNumberedByMeaning (sym a) empty_numbered
kept_numbered lead identified (Some l) names unit sound entered a = linked_numbered lead identified (modules_in l) (task_in l) (name_under (numbering l.numbers) names) unit (kept_found l names sound entered) a

pub empty_faithful : IsFaithful empty_unit
empty_faithful = record { module_names_apart = λ i d h. absurd (omega (arith, h)); references_read_right = λ i d h. absurd (omega (arith, h)) }

pub kept_faithful : WaysLeadOutwards → OccurrencesAreIdentifiers → (l : Option Link) (names : Given) (unit : UnitView) → IsSoundLink l → IsEntered (resolved_of l names) → AssemblesTo (resolved_of l names) unit → NamesAreApart unit → IsFaithful unit
kept_faithful lead identified None names unit sound entered a apart = subst IsFaithful (sym a) empty_faithful
kept_faithful lead identified (Some l) names unit sound entered a apart = linked_faithful lead identified (modules_in l) (task_in l) (name_under (numbering l.numbers) names) unit (kept_found l names sound entered) a apart
