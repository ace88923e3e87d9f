use Rattle.wesl_link_engine.specs.GivenView.{given}
use Rattle.wesl_link_laws.proofs.Links.{linked_faithful, kept_faithful}
use Rattle.wesl_link_laws.proofs.laws.law_of_apart_names.Goals as goal

pub returns : goal.returns
returns c = record {
  linked = λ w task names unit found assembled apart. linked_faithful c.law_of_ways.ensures c.law_of_occurrences.ensures.identifiers w task names unit found assembled apart;
  resolved = λ r unit entered assembled apart. kept_faithful c.law_of_ways.ensures c.law_of_occurrences.ensures.identifiers r.found.link (given r.found.given) unit (c.law_of_sound_links.ensures r.found.link r.sound) entered assembled apart;
}
