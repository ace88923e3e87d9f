use Rattle.wesl_cond_alive.specs.Views.{here_view, state_of}
use Rattle.wesl_cond_alive.proofs.Nodes.{value_joined}
use Rattle.wesl_cond_alive.proofs.walk.Walk.declaration.Goals as goal

pub returns : goal.returns
returns c =
    let d = c.args.declaration.now in
    record {
      noted = λ k. c.attributes.ensures.noted (c.add.ensures.noted (c.optional_type.ensures.noted (c.optional_node.ensures.noted k)));
      found = λ k.
          let k3 = c.optional_node.ensures.noted k in
          let k2 = c.optional_type.ensures.noted k3 in
          let k1 = c.add.ensures.noted k2 in
          value_joined (here_view c.args.here.now) (state_of c.args.self.now) (state_of c.attributes.new.self) (state_of c.add.new.self) (state_of c.optional_type.new.self) (state_of c.optional_node.new.self)
          d.attributes d.kind d.ident d.ty d.initializer
          (c.attributes.ensures.found k1) (c.add.ensures.found k2) (c.optional_type.ensures.found k3) (c.optional_node.ensures.found k);
    }
