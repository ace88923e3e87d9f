use Rattle.std.proofs.Common.{refl}
use Rattle.wesl_json_read.proofs.Places.{memory}
use Rattle.wesl_json_read.proofs.Noting.{refused, taken}
use Rattle.wesl_json_read.proofs.reader.Reader.path.Goals as goal

pub returns-in-Some : goal.returns-in-Some
returns-in-Some c = taken _ c.optional_path-read.ensures.ok c.in-Some.ensures.read refl refl c.in-Some.ensures.same (λ h. h c.args.self.now.spans c.args.self.now.numbering)

pub returns-in-None : goal.returns-in-None
returns-in-None c = refused _ c.optional_path-read.ensures.place refl refl c.in-None.ensures.noted (λ x h. h c.args.self.now.spans) (λ x is. memory _ x is)
