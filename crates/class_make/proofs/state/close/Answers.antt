use Rattle.class_make.proofs.WritableLaws.{content_fits, one_attribute_is_writable}
use Rattle.class_make.proofs.state.close.Goals as goal

pub put_method-requires : goal.put_method-requires
put_method-requires c =
    one_attribute_is_writable _ _ _ c.in_ok-attributes.ensures (rw c.from_vec.ensures (content_fits c.args.method.body _ c.in_ok-content.ensures))
