use Rattle.wesl_link_flaws.proofs.Searching.{put_distinct}
use Rattle.wesl_link_flaws.proofs.keys.put.Goals as goal

pub returns-clause-keys : goal.returns-clause-keys
returns-clause-keys g c = record { same = c.put_key.ensures.stays; once = put_distinct _ _ _ c.requires.keys.once c.in_ok-put_key.ensures.puts }
