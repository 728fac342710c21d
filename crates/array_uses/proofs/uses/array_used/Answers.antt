use Rattle.array_uses.proofs.Used.{class_what, field_what, call_what, interface_what}
use Rattle.array_uses.proofs.uses.array_used.Goals as goal

pub returns-in_ok-class_type-in-Class : goal.returns-in_ok-class_type-in-Class
returns-in_ok-class_type-in-Class c = λ us u pools there same uses rules.
    class_what us c.args.file u.file.pool c.args.what.now c.in-Class.purpose c.in-Class.index c.in_ok-class_type-in-Class.field-0 c.class_use.result c.in-Class.is c.class_use.ensures
    (c.in_ok-class_type-in-Class.ensures us pools u there) uses rules

pub returns-in_ok-owner_type-in-Field : goal.returns-in_ok-owner_type-in-Field
returns-in_ok-owner_type-in-Field c = λ us u pools there same uses rules.
    field_what us c.args.file u.file.pool c.args.what.now c.in-Field.field-0 c.in-Field.index c.in_ok-owner_type-in-Field.field-0 c.array_itself.result c.in-Field.is c.array_itself.ensures
    (c.in_ok-owner_type-in-Field.ensures.reference us pools u there same) uses rules

pub returns-in_ok-owner_type-in-Call : goal.returns-in_ok-owner_type-in-Call
returns-in_ok-owner_type-in-Call c = λ us u pools there same uses rules.
    call_what us c.args.file u.file.pool c.args.what.now c.in-Call.field-0 c.in-Call.index c.in_ok-owner_type-in-Call.field-0 c.array_itself-in-Call.result c.in-Call.is c.array_itself-in-Call.ensures
    (c.in_ok-owner_type-in-Call.ensures.reference us pools u there same) uses rules

pub returns-in_ok-owner_type-in-InterfaceCall : goal.returns-in_ok-owner_type-in-InterfaceCall
returns-in_ok-owner_type-in-InterfaceCall c = λ us u pools there same uses rules.
    interface_what us c.args.file u.file.pool c.args.what.now c.in-InterfaceCall.index (c.in_ok-owner_type-in-InterfaceCall).field-0 c.array_itself-in-InterfaceCall.result c.in-InterfaceCall.is c.array_itself-in-InterfaceCall.ensures
    ((c.in_ok-owner_type-in-InterfaceCall).ensures.reference us pools u there same) uses rules
