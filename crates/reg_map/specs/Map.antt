-- Which register lies where in a page (document 01, 'The pages'; TIS section 10). Assumes nothing.
use Rattle.std.specs.Prelude.{ℕ, ◌+◌, ◌-◌, cond, eqb}
use Rattle.reg_layout.specs.Offsets.{within, in_four, place_of, access, int_enable, int_vector, int_status, intf_capability, sts, data_fifo, identity}
use Rattle.reg_map.specs.declared.Register.{Register}
use Rattle.reg_map.specs.declared.Register.TheVariants.{Access, IntEnable, IntVector, IntStatus, IntfCapability, Sts, DataFifo, Identity, Reserved}

-- "0F00..0F04 identity bytes. .. Any other offset reads FFh and ignores writes"
abbrev pub identity_at : ℕ → Register
identity_at at = cond (within identity (identity + 4) at) (Identity (at - identity)) Reserved

-- "Within a page: 0000 ACCESS; 0008..000B INT_ENABLE; 000C INT_VECTOR; 0010..0013 INT_STATUS; 0014..0017 INTF_CAPABILITY;
-- 0018..001A STS; 0024..0027 FIFO; .." The number of a register is the byte within it.
unfoldable pub register_at : ℕ → Register
register_at at =
    cond (eqb at access) Access
    (cond (in_four int_enable at) (IntEnable (at - int_enable))
    (cond (eqb at int_vector) IntVector
    (cond (in_four int_status at) (IntStatus (at - int_status))
    (cond (in_four intf_capability at) (IntfCapability (at - intf_capability))
    (cond (within sts (sts + 2) at) (Sts (at - sts))
    (cond (in_four data_fifo at) DataFifo
    (identity_at at)))))))

-- the register that an offset of the five pages names
abbrev pub register_for : ℕ → Register
register_for o = register_at (place_of o)
