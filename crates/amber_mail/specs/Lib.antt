-- What contracts say of mails.
pub mod Controls
pub mod Rings
