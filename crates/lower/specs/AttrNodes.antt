-- What an Attr node is, by its mark.
use Rattle.std.specs.Prelude.{cond, ◌==◌}
use Rattle.syntax.specs.declared.node.Node.{Node}
use Rattle.items.specs.Attributes.{input_of, text_of}
use Rattle.lower.specs.declared.attrs.AttrNode.{AttrNode}
use Rattle.lower.specs.declared.attrs.AttrNode.TheVariants.{Attribute, CfgTrue, CfgFalse}

abbrev pub attr_node : Node → AttrNode
attr_node x = cond (x.mark == 3) CfgTrue (cond (x.mark == 4) (CfgFalse (record { text = text_of x })) (Attribute (input_of x)))
