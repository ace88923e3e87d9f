use Rattle.std.proofs.Common.{ap, sym}
use Rattle.wesl_json_form.specs.Nodes.{all_attribute_words}
use Rattle.wesl_json_form.specs.Schema.{look}
use Rattle.wesl_json_read.proofs.words.attribute_word.Goals as goal

pub returns-in-align-clause-node : goal.returns-in-align-clause-node
returns-in-align-clause-node c = ap (look (all_attribute_words c.args.spans)) (sym c.in-align.is)

pub returns-in-align-clause-text : goal.returns-in-align-clause-text
returns-in-align-clause-text c = c.in-align.is

pub returns-in-binding-clause-node : goal.returns-in-binding-clause-node
returns-in-binding-clause-node c = ap (look (all_attribute_words c.args.spans)) (sym c.in-binding.is)

pub returns-in-binding-clause-text : goal.returns-in-binding-clause-text
returns-in-binding-clause-text c = c.in-binding.is

pub returns-in-blend_src-clause-node : goal.returns-in-blend_src-clause-node
returns-in-blend_src-clause-node c = ap (look (all_attribute_words c.args.spans)) (sym c.in-blend_src.is)

pub returns-in-blend_src-clause-text : goal.returns-in-blend_src-clause-text
returns-in-blend_src-clause-text c = c.in-blend_src.is

pub returns-in-group-clause-node : goal.returns-in-group-clause-node
returns-in-group-clause-node c = ap (look (all_attribute_words c.args.spans)) (sym c.in-group.is)

pub returns-in-group-clause-text : goal.returns-in-group-clause-text
returns-in-group-clause-text c = c.in-group.is

pub returns-in-id-clause-node : goal.returns-in-id-clause-node
returns-in-id-clause-node c = ap (look (all_attribute_words c.args.spans)) (sym c.in-id.is)

pub returns-in-id-clause-text : goal.returns-in-id-clause-text
returns-in-id-clause-text c = c.in-id.is

pub returns-in-location-clause-node : goal.returns-in-location-clause-node
returns-in-location-clause-node c = ap (look (all_attribute_words c.args.spans)) (sym c.in-location.is)

pub returns-in-location-clause-text : goal.returns-in-location-clause-text
returns-in-location-clause-text c = c.in-location.is

pub returns-in-size-clause-node : goal.returns-in-size-clause-node
returns-in-size-clause-node c = ap (look (all_attribute_words c.args.spans)) (sym c.in-size.is)

pub returns-in-size-clause-text : goal.returns-in-size-clause-text
returns-in-size-clause-text c = c.in-size.is

pub returns-in-if-clause-node : goal.returns-in-if-clause-node
returns-in-if-clause-node c = ap (look (all_attribute_words c.args.spans)) (sym c.in-if.is)

pub returns-in-if-clause-text : goal.returns-in-if-clause-text
returns-in-if-clause-text c = c.in-if.is

pub returns-in-elif-clause-node : goal.returns-in-elif-clause-node
returns-in-elif-clause-node c = ap (look (all_attribute_words c.args.spans)) (sym c.in-elif.is)

pub returns-in-elif-clause-text : goal.returns-in-elif-clause-text
returns-in-elif-clause-text c = c.in-elif.is

pub returns-in-workgroup_size-clause-node : goal.returns-in-workgroup_size-clause-node
returns-in-workgroup_size-clause-node c = ap (look (all_attribute_words c.args.spans)) (sym c.in-workgroup_size.is)

pub returns-in-workgroup_size-clause-text : goal.returns-in-workgroup_size-clause-text
returns-in-workgroup_size-clause-text c = c.in-workgroup_size.is

pub returns-in-builtin-clause-node : goal.returns-in-builtin-clause-node
returns-in-builtin-clause-node c = ap (look (all_attribute_words c.args.spans)) (sym c.in-builtin.is)

pub returns-in-builtin-clause-text : goal.returns-in-builtin-clause-text
returns-in-builtin-clause-text c = c.in-builtin.is

pub returns-in-interpolate-clause-node : goal.returns-in-interpolate-clause-node
returns-in-interpolate-clause-node c = ap (look (all_attribute_words c.args.spans)) (sym c.in-interpolate.is)

pub returns-in-interpolate-clause-text : goal.returns-in-interpolate-clause-text
returns-in-interpolate-clause-text c = c.in-interpolate.is

pub returns-in-diagnostic-clause-node : goal.returns-in-diagnostic-clause-node
returns-in-diagnostic-clause-node c = ap (look (all_attribute_words c.args.spans)) (sym c.in-diagnostic.is)

pub returns-in-diagnostic-clause-text : goal.returns-in-diagnostic-clause-text
returns-in-diagnostic-clause-text c = c.in-diagnostic.is

pub returns-in-custom-clause-node : goal.returns-in-custom-clause-node
returns-in-custom-clause-node c = ap (look (all_attribute_words c.args.spans)) (sym c.in-custom.is)

pub returns-in-custom-clause-text : goal.returns-in-custom-clause-text
returns-in-custom-clause-text c = c.in-custom.is
