use Rattle.wesl_link_engine.specs.GivenView.{given}
use Rattle.wesl_link_laws.proofs.Links.{linked_numbered, kept_numbered}
use Rattle.wesl_link_laws.proofs.laws.law_of_canonical_links.Goals as goal

pub returns : goal.returns
returns c = record {
  linked = λ w task names unit found assembled. c.law_of_canonical_numbers.ensures.faithful unit (linked_numbered c.law_of_ways.ensures c.law_of_occurrences.ensures.identifiers w task names unit found assembled);
  resolved = λ r unit entered assembled.
      c.law_of_canonical_numbers.ensures.faithful unit
      (kept_numbered c.law_of_ways.ensures c.law_of_occurrences.ensures.identifiers r.found.link (given r.found.given) unit (c.law_of_sound_links.ensures r.found.link r.sound) entered assembled);
}
