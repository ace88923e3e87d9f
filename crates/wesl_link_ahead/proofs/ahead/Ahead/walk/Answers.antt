use Rattle.wesl_link_ahead.proofs.ahead.Ahead.walk.Goals as goal

pub loop-hop-init : goal.loop-hop-init
loop-hop-init c = record { ahead = c.requires.ahead; way = c.requires.way; keeps = λ q h. h }

pub loop-hop-preserved : goal.loop-hop-preserved
loop-hop-preserved c = record {
  ahead = c.in_ok-next.ensures.ahead;
  way = rw c.in-Some.is at c.in_ok-next.ensures.way;
  keeps = λ q h. c.in_ok-next.ensures.keeps q (c.loop-hop.invariant.keeps q h);
}

pub returns-in-None-clause-keeps : goal.returns-in-None-clause-keeps
returns-in-None-clause-keeps c = λ q h. c.in_ok-next.ensures.keeps q (c.loop-hop.invariant.keeps q h)
