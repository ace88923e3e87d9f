use Rattle.std.proofs.Common.{◌≡◌, ℕ, List, ap, sym, ◌∙◌, subst, leb, arith, rules}
use Rattle.std.specs.Prelude.{count_by}
use Rattle.std.specs.List.Sorted.{IsNonDecreasingBy}
use Rattle.std.proofs.lemmas.List.Sorted.{IsPartitionPoint-from_clause, IsPartitionedBy-leb}
use Rattle.wesl_text_lines.specs.Lines.{line_starts}
use Rattle.wesl_text_lines.proofs.Counts.{count_at}
use Rattle.wesl_text_lines.proofs.Ends.{line_starts_rise}
use Rattle.wesl_text_lines.proofs.line_starts.LineStarts.line.Goals as goal

pub returns : goal.returns
returns c = λ text e.
    let xs : List ℕ = c.deref.result.now in
    let held : xs ≡ line_starts text = c.deref.ensures.value ∙ e in
    let Rise : List ℕ → Type 0 = λ (ys : List ℕ). IsNonDecreasingBy (λ b. b) ys in
    let rise = subst Rise (sym held) (line_starts_rise text) in
    let parted = IsPartitionedBy-leb (λ b. b) xs c.args.offset rise in
    let point = IsPartitionPoint-from_clause (λ b. leb b c.args.offset) xs _ c.partition_point.ensures.partitioned parted (λ a r q k. search rules) in
    let counts = count_at (λ b. leb b c.args.offset) xs c.partition_point.result c.partition_point.ensures.bound (λ k h. point.0 k 0 (omega arith) h) (λ k l h. point.1 k 0 l h) in
    sym counts ∙ ap (count_by (λ b. leb b c.args.offset)) held
