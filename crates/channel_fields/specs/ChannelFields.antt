-- A channel field as four numbers.
use Rattle.std.specs.Prelude.{◌%◌, cond, eqb}
use Rattle.sequence.specs.declared.Field.{Field}
use Rattle.sequence.specs.declared.Field.TheVariants.{Blank, Channel, Duration}
use Rattle.channel_fields.specs.declared.FieldBytes.{FieldBytes}

-- the kind of a field (0 blank, 1 channel, 2 duration), and what it holds
abbrev pub field_bytes : Field → FieldBytes
field_bytes Blank = record { kind = 0; first = 0; second = 0; third = 0 }
field_bytes (Channel c) = record { kind = 1; first = c.0 % 256; second = 0; third = 0 }
field_bytes (Duration d) = record { kind = 2; first = d.hours; second = d.minutes; third = d.seconds }

-- four bytes that are no field give channel 0, which the writer refuses with 18
abbrev pub no_field : Field
no_field = Channel (record { 0 = 0 })

unfoldable pub field_from : FieldBytes → Field
field_from f =
    cond (eqb f.kind 2) (Duration (record { hours = f.first; minutes = f.second; seconds = f.third }))
    (cond (eqb f.second 0)
    (cond (eqb f.third 0)
    (cond (eqb f.kind 1) (Channel (record { 0 = f.first })) (cond (eqb f.kind 0) (cond (eqb f.first 0) Blank no_field) no_field))
    no_field)
    no_field)
