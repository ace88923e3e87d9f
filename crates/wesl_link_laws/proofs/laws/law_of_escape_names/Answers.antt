use Rattle.wesl_link_engine.specs.GivenView.{given}
use Rattle.wesl_link.specs.Keeping.{resolved}
use Rattle.wesl_link_laws.proofs.Escapes.{linked_escaped, kept_escaped}
use Rattle.wesl_link_laws.proofs.laws.law_of_escape_names.Goals as goal

pub returns : goal.returns
returns c = record {
  linked = λ w task names unit found assembled agree back others.
      linked_escaped c.law_of_ways.ensures c.law_of_occurrences.ensures.identifiers w task names unit found assembled agree back others;
  mangled = λ before after unit entered escaped assembled reversible others.
      kept_escaped c.law_of_ways.ensures c.law_of_occurrences.ensures.identifiers c.escape_round_trip.ensures (resolved before) after.found.link (given after.found.given) unit (c.law_of_sound_links.ensures after.found.link after.sound) entered escaped assembled reversible others;
}
