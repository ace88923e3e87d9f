use Rattle.std.proofs.Common.{refl}
use Rattle.wesl_json_read.proofs.Places.{memory}
use Rattle.wesl_json_read.proofs.Noting.{refused, taken}
use Rattle.wesl_json_read.proofs.reader.Reader.span.Goals as goal

pub returns-in-Some : goal.returns-in-Some
returns-in-Some c = taken _ c.read_span-read.ensures.ok c.in-Some.ensures.read refl refl c.in-Some.ensures.same (λ h. (refl, h))

pub returns-in-None : goal.returns-in-None
returns-in-None c = refused _ c.read_span-read.ensures.place refl refl c.in-None.ensures.noted (λ x h. h) (λ x is. memory _ x is)
